-- `grow` meets its contract: each half is complete for its cone, and the stack stays as it is before the end of the list.
use mathlib.Core.Path.{refl, ◌∙◌}
use mathlib.Core.List.{List}
use Prim.Native.Nat.{ℕ, ◌≤◌}
use native.Mathlib.Omega.{arith}
use Rattle.cones.specs.Lists.{Framed}
use Rattle.cones.proofs.Laws.Split.{framed_on}
use Rattle.cones.proofs.grow.+grow.Goals as goal

-- A frame of a frame.
framed_trans : {l m q : List ℕ} {a b : ℕ} → a ≤ b → Framed l m a → Framed m q b → Framed l q a
framed_trans h f g = record {
  room = g.room ∙ f.room;
  before = λ x k. g.before x (omega (arith, h, k)) ∙ f.before x k;
}

pub put_leaf-requires : goal.put_leaf-requires
put_leaf-requires t c = (framed_on c.lower.ensures.0 c.requires.n_in_bounds.1, c.requires.indexed)

pub upper-high-requires-clause-n_in_bounds : goal.upper-high-requires-clause-n_in_bounds
upper-high-requires-clause-n_in_bounds t c =
    let half = c.in-Some.ensures.1.half in
    let f : Framed c.lower.new.stack c.grow-first.new.stack c.args.cone.to =
    framed_trans half.after (record { room = refl; before = λ x h. refl }) c.grow-first.ensures.framed in
    (c.requires.n_in_bounds.0, framed_on f (framed_on c.lower.ensures.0 c.requires.n_in_bounds.1))

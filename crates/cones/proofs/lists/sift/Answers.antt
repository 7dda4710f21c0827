-- `sift` meets its contract: where all are kept the list itself is what is kept.
use mathlib.Core.Path.{◌≡◌, subst}
use mathlib.Core.Bool.{Bool}
use mathlib.Core.List.{List}
use Prim.Native.Nat.{ℕ, ◌+◌, ◌-◌, ◌≤◌}
use native.Mathlib.Omega.{arith}
use Rattle.cones.specs.Lists.{Kept, Framed}
use Rattle.cones.proofs.Laws.Covers.{kept_whole}
use Rattle.cones.proofs.lists.sift.Goals as goal

whole : {test : ℕ → Bool} {l m : List ℕ} {from to : ℕ} → from ≤ to → Framed l m to → Kept test l m from from to to
whole {test} {l} {m} {from} {to} h f =
    let all : from + (to - from) ≡ to = omega arith in
    subst (λ e. Kept test l m from from e e) all
    (kept_whole (to - from) (λ x k. f.before x (omega (arith, k, all))))

pub returns-then-end-to : goal.returns-then-end-to
returns-then-end-to c =
    let h = c.filter-tail.ensures.0 in (
      record {
        framed = h.framed;
        after = omega arith;
        some = c.requires.from_le_to.0;
        within = omega (arith, h.framed.room, c.requires.from_le_to.1);
        kept = whole c.requires.from_le_to.0 h.framed;
      },
      omega arith,
      c.filter-tail.ensures.1,
    )

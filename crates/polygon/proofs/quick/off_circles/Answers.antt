-- `off_circles` meets its contract: the last two edges, and then, grid by grid, all of them.
use mathlib.Core.Path.{◌≡◌, sym, ◌∙◌}
use mathlib.Core.Bool.{false}
use Prim.Native.Nat.{◌-◌}
use native.Mathlib.Omega.{arith}
use Rattle.polygon.specs.Vertices.{vertices_count}
use Rattle.polygon.specs.Lines.{is_on_circle}
use Rattle.polygon.proofs.Laws.Quick.{circle_held}
use Rattle.polygon.proofs.quick.off_circles.Goals as goal
use Rattle.polygon.proofs.quick.off_circles.Lts as lts
use Rattle.polygon.proofs.quick.off_circles.Reads as reads
use Rattle.polygon.proofs.quick.off_circles.Tie as tie

abbrev Else-is_on_circle-2 : Type 0
Else-is_on_circle-2 = lts.Else2 tie.the-claims reads.Pre reads.Post tie.handed_clauses

pub overflow_sub-n : goal.overflow_sub-n
overflow_sub-n c = omega (arith, c.requires.0.least)

pub is_on_circle-requires : goal.is_on_circle-requires
is_on_circle-requires c = (omega (arith, c.requires.0.least), c.requires.1, c.requires.2)

pub returns-then-is_on_circle : goal.returns-then-is_on_circle
returns-then-is_on_circle c =
    let s = c.before.before in
    sym
    (circle_held s.args.vertices.now s.args.point (omega (arith, s.requires.0.least))
    (sym c.before.is_on_circle.ensures ∙ c.if-is_on_circle.true))

pub overflow_sub-n-2 : goal.overflow_sub-n-2
overflow_sub-n-2 c = omega (arith, c.before.before.requires.0.least)

pub is_on_circle-requires-2 : goal.is_on_circle-requires-2
is_on_circle-requires-2 c =
    let s = c.before.before in (omega (arith, s.requires.0.least), s.requires.1, s.requires.2)

pub returns-then-is_on_circle-2 : goal.returns-then-is_on_circle-2
returns-then-is_on_circle-2 c =
    let s = c.before.before.before.before in
    sym
    (circle_held s.args.vertices.now s.args.point (omega (arith, s.requires.0.least))
    (sym c.before.is_on_circle-2.ensures ∙ c.if-is_on_circle-2.true))

-- Neither of the last two edges holds the point.
off-last : (c : Else-is_on_circle-2) →
    let a = c.before.before.before.before.args in
    let vs = a.vertices.now in
    (is_on_circle vs a.point (vertices_count vs - 2) ≡ false) × (is_on_circle vs a.point (vertices_count vs - 1) ≡ false)
off-last c = (
  sym c.before.before.before.is_on_circle.ensures ∙ c.before.before.if-is_on_circle.false,
  sym c.before.is_on_circle-2.ensures ∙ c.if-is_on_circle-2.false,
)

pub off_pairs-requires : goal.off_pairs-requires
off_pairs-requires c =
    let t = c.before in
    record {
      listed = rw c.in-Coarse.is at t.before.before.before.before.requires;
      vertices_value = off-last t;
    }

pub off_pairs-requires-in-Fine : goal.off_pairs-requires-in-Fine
off_pairs-requires-in-Fine c =
    let t = c.before in
    record {
      listed = rw c.in-Fine.is at t.before.before.before.before.requires;
      vertices_value = off-last t;
    }

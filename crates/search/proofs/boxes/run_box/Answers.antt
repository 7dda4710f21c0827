-- `run_box` meets its contract: the fold from edge i on of what it has so far is the whole fold.
use mathlib.Core.Path.{◌≡◌, refl, sym, ap, ◌∙◌}
use mathlib.Core.List.{List}
use Prim.Native.Nat.{ℕ, ◌+◌, ◌-◌, ◌<◌}
use native.Mathlib.Omega.{arith}
use lib.IntN.{ℤ}
use Rattle.sphere.specs.declared.point.Point.{Point}
use Rattle.polygon.specs.Vertices.{vertices_count, vertex_at, end_of}
use Rattle.polygon.proofs.Laws.Quick.{next_inside}
use Rattle.search.specs.Boxes.{run_end, least_of, greatest_of, box_of}
use Rattle.search.proofs.Laws.Extremes.{folded_step, folded_end}
use Rattle.search.proofs.Laws.Runs.{Run, run_known, run_few}
use Rattle.search.proofs.boxes.run_box.Goals as goal
use Rattle.search.proofs.boxes.run_box.Goals.{Start}

-- An edge inside the list ends in the next vertex.
end_inside : (vs : List ℤ) (i : ℕ) {p : Point} → i + 1 < vertices_count vs → p ≡ vertex_at vs (i + 1) → p ≡ end_of vs i
end_inside vs i h e = e ∙ ap (vertex_at vs) (sym (next_inside (vertices_count vs) i h))

module _ (s : Start) where
  few : s.args.r < 128
  few = run_few (vertices_count s.args.vertices.now) s.args.r s.requires.0.most s.requires.1

  run : let n = vertices_count s.args.vertices.now in Run n s.args.r (run_end n s.args.r)
  run = run_known (vertices_count s.args.vertices.now) s.args.r s.requires.1

pub run_end-last-requires : goal.run_end-last-requires
run_end-last-requires c = few c

pub overflow_sub-last : goal.overflow_sub-last
overflow_sub-last c = omega (arith, (run c.before).some, c.run_end-last.ensures)

pub overflow_mul-r : goal.overflow_mul-r
overflow_mul-r c = omega (arith, few c.before)

pub vertex_at-low-requires : goal.vertex_at-low-requires
vertex_at-low-requires c = omega (arith, (run c.before).some, (run c.before).within)

pub overflow_step-i : goal.overflow_step-i
overflow_step-i c = omega (arith, few c.before.before)

pub loop-i-init : goal.loop-i-init
loop-i-init c = record {
  from = omega arith;
  before = omega (arith, (run c.before.before).some, c.run_end-last.ensures);
  least = record { rest = refl };
  greatest = record { rest = refl };
}

pub vertex_at-p-requires : goal.vertex_at-p-requires
vertex_at-p-requires c =
    omega (arith, c.loop-i-test.true, c.run_end-last.ensures, (run c.before.before.before.before).within)

pub loop-i-preserved : goal.loop-i-preserved
loop-i-preserved c =
    let inv = c.loop-i.invariant in
    let vs = c.args.vertices.now in
    let inside : c.loop-i.i + 1 < vertices_count vs =
    omega (arith, c.loop-i-test.true, c.run_end-last.ensures, (run c.before.before.before.before.before.before.before).within) in
    let end = end_inside vs c.loop-i.i inside c.vertex_at-p.ensures in
    record {
      from = omega (arith, inv.from);
      before = omega (arith, c.loop-i-test.true);
      least = rw (c.least-low.ensures, end) (folded_step (omega (arith, inv.before)) inv.least);
      greatest = rw (c.greatest-high.ensures, end) (folded_step (omega (arith, inv.before)) inv.greatest);
    }

pub end_of-end-requires : goal.end_of-end-requires
end_of-end-requires c =
    omega (arith, c.run_end-last.ensures, (run c.before.before.before.before).some, (run c.before.before.before.before).within)

pub returns : goal.returns
unfolding box_of
returns c =
    let inv = c.loop-i.invariant in
    let vs = c.args.vertices.now in
    let here : c.run_end-last.result - 1 ≡ c.loop-i.i = omega (arith, c.loop-i-test.false, inv.before) in
    let to : c.run_end-last.result - 1 + 1 ≡ run_end (vertices_count vs) c.args.r =
    omega (arith, c.run_end-last.ensures, (run c.before.before.before.before.before.before.before).some) in
    let end = c.end_of-end.ensures ∙ ap (end_of vs) here in
    let first = c.vertex_at-low.ensures in
    let least = c.least.ensures ∙ ap (least_of c.loop-i.low) end
    ∙ folded_end (omega (arith, here)) (folded_step (omega (arith, here)) inv.least) in
    let greatest = c.greatest.ensures ∙ ap (greatest_of c.loop-i.high) end
    ∙ folded_end (omega (arith, here)) (folded_step (omega (arith, here)) inv.greatest) in
    let low = rw (first, to) at least in
    let high = rw (first, to) at greatest in
    cc (low, high)

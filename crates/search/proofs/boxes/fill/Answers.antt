-- `fill` meets its contract: before run r the boxes of the runs before it are stored.
use mathlib.Core.Path.{◌≡◌, refl, ◌∙◌}
use Prim.Native.Nat.{◌<◌}
use native.Mathlib.Numerals.{add-one}
use native.Mathlib.Omega.{arith}
use Rattle.polygon.specs.Vertices.{vertices_count}
use Rattle.search.specs.Boxes.{run_count, boxes_stored}
use Rattle.search.proofs.Laws.Runs.{run_few}
use Rattle.search.proofs.Laws.Stored.{stored_length}
use Rattle.search.proofs.boxes.fill.Goals as goal

pub run_count-runs-requires : goal.run_count-runs-requires
run_count-runs-requires c = c.requires.0.most

pub loop-r-init : goal.loop-r-init
unfolding boxes_stored
loop-r-init c = (omega arith, refl)

pub put_box-requires : goal.put_box-requires
put_box-requires c =
    let vs = c.args.vertices.now in
    let more : c.loop-r.r < run_count (vertices_count vs) =
    omega (arith, c.loop-r-test.true, c.run_count-runs.ensures) in
    let few = run_few (vertices_count vs) c.loop-r.r c.requires.0.most more in record {
      listed = (c.requires.0, c.requires.1);
      r_bound = (more, rw (c.loop-r.invariant.1, stored_length vs _ c.loop-r.r) (omega (arith, few, c.requires.2)));
    }

pub loop-r-preserved : goal.loop-r-preserved
unfolding boxes_stored
loop-r-preserved c =
    let l = c.loop-r in
    (omega arith, rw l.invariant.1 at c.put_box.ensures ∙ rw add-one)

pub shape_of-boxes : goal.shape_of-boxes
shape_of-boxes c =
    rw c.loop-r.invariant.1 (stored_length c.args.vertices.now _ c.loop-r.r)

pub returns : goal.returns
returns c =
    let e : c.loop-r.r ≡ run_count (vertices_count c.args.vertices.now) =
    omega (arith, c.loop-r-test.false, c.loop-r.invariant.0, c.run_count-runs.ensures) in
    rw (← e) c.loop-r.invariant.1

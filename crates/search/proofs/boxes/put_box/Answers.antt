-- `put_box` meets its contract.
use native.Mathlib.Omega.{arith}
use Rattle.sphere.specs.Point.{fine, Within}
use Rattle.search.specs.Boxes.{box_stored}
use Rattle.search.proofs.Laws.Skipped.{box_within}
use Rattle.search.proofs.boxes.put_box.Goals as goal
use Rattle.search.proofs.boxes.put_box.Lts as lts
use Rattle.search.proofs.boxes.put_box.Reads as reads
use Rattle.search.proofs.boxes.put_box.Tie as tie

abbrev After-run_box-b : Type 0
After-run_box-b = lts.After-run_box tie.the-claims reads.Pre reads.Post tie.handed_clauses

pub run_box-b-requires : goal.run_box-b-requires
run_box-b-requires c = (c.requires.listed.0, c.requires.r_bound.0)

-- The box's corners are within the grid.
low : (c : After-run_box-b) → Within fine c.run_box-b.result.low
low c = rw c.run_box-b.ensures (box_within c.requires.listed.1 c.args.r c.requires.r_bound.0).0

high : (c : After-run_box-b) → Within fine c.run_box-b.result.high
high c = rw c.run_box-b.ensures (box_within c.requires.listed.1 c.args.r c.requires.r_bound.0).1

pub put_corner-requires : goal.put_corner-requires
put_corner-requires c = (omega arith, low c.before.before)

pub put_corner-requires-2 : goal.put_corner-requires-2
put_corner-requires-2 c = (omega arith, high c.before.before.before.before.before.before)

pub returns : goal.returns
unfolding box_stored
returns c =
    rw (c.put_corner.ensures, c.run_box-b.ensures) at c.put_corner-2.ensures

-- `fill` meets its contract: before run r the boxes of the runs before it are stored.
use mathlib.Core.Path.{◌≡◌}
use Prim.Native.Nat.{◌-◌, ◌≤◌}
use Rattle.search.specs.Boxes.{boxes_stored}
use Rattle.search.proofs.boxes.fill.Given as goal

abbrev pub invariant-loop-r : goal.invariant-loop-r
invariant-loop-r l = (l.r ≤ l.runs) × (l.boxes ≡ boxes_stored l.vertices l.r l.initial.boxes)

abbrev pub decreases-loop-r : goal.decreases-loop-r
decreases-loop-r l = l.runs - l.r

-- `looked_before` meets its contract: what was counted before run r, and run r, are counted before run r + 1.
use Prim.Native.Nat.{◌-◌, ◌≤◌}
use Rattle.search.specs.Spans.{run_start}
use Rattle.search.specs.Walk.{is_looked_by}
use Rattle.search.proofs.Laws.Counted.{Counted}
use Rattle.search.proofs.looked.looked_before.Given as goal

abbrev pub invariant-loop-r : goal.invariant-loop-r
invariant-loop-r l =
    (l.r ≤ l.runs) × Counted (is_looked_by l.boxes l.plane.normal) 0 (run_start l.reach l.r) l.count

abbrev pub decreases-loop-r : goal.decreases-loop-r
decreases-loop-r l = l.runs - l.r

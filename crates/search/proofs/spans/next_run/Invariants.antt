-- `next_run` meets its contract: no run from r on, before the one at hand, is sought.
use Prim.Native.Nat.{◌-◌}
use Rattle.search.specs.Scan.{Scanning}
use Rattle.search.specs.Spans.{is_run}
use Rattle.search.proofs.spans.next_run.Given as goal

abbrev pub invariant-loop-i : goal.invariant-loop-i
invariant-loop-i l = Scanning (is_run l.boxes l.plane.normal l.skipped) l.r l.runs l.i

abbrev pub decreases-loop-i : goal.decreases-loop-i
decreases-loop-i l = l.runs - l.i

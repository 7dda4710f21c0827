-- `past_sure` meets its contract: no edge from i on, before the one at hand, is near.
use Prim.Native.Nat.{◌-◌}
use Rattle.search.specs.Scan.{Scanning, Strict, is_near}
use Rattle.search.proofs.scan.past_sure.Given as goal

abbrev pub invariant-loop-edge : goal.invariant-loop-edge
invariant-loop-edge l =
    Scanning (is_near l.vertices l.plane.normal) l.i l.last l.edge × Strict l.vertices l.plane.normal l.above l.edge

abbrev pub decreases-loop-edge : goal.decreases-loop-edge
decreases-loop-edge l = l.last - l.edge

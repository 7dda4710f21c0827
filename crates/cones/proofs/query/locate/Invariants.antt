-- `locate` meets its contract: it stays among the nodes.
use Prim.Native.Nat.{◌-◌, ◌≤◌}
use Rattle.cones.proofs.query.locate.Given as goal

abbrev pub invariant-loop-low : goal.invariant-loop-low
invariant-loop-low l = (l.low ≤ l.high) × (l.high ≤ l.nodes)

abbrev pub decreases-loop-low : goal.decreases-loop-low
decreases-loop-low l = l.high - l.low

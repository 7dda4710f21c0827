-- `count_far` meets its contract: it counted none before k, if it counted none.
use Prim.Native.Nat.{◌-◌, ◌≤◌}
use lib.ListN.{length}
use Rattle.sphere.specs.Point.{limit_of}
use Rattle.polygon.specs.Accepted.{FarCount}
use Rattle.polygon.proofs.quick.count_far.Given as goal

abbrev pub invariant-loop-k : goal.invariant-loop-k
invariant-loop-k l =
    (l.k ≤ length l.vertices) × ((l.far ≤ l.k) × FarCount (limit_of l.grid) l.vertices l.k l.far)

abbrev pub decreases-loop-k : goal.decreases-loop-k
decreases-loop-k l = l.k-end - l.k

-- `mark` stays within the arrays.
use mathlib.Core.Path.{◌≡◌}
use Prim.Native.Nat.{◌-◌, ◌≤◌}
use lib.ListN.{length}
use Rattle.cones.proofs.buckets.mark.Given as goal

abbrev pub invariant-loop-k : goal.invariant-loop-k
invariant-loop-k l = (l.k ≤ l.nodes) × (length l.buckets ≡ length l.initial.buckets)

abbrev pub decreases-loop-k : goal.decreases-loop-k
decreases-loop-k l = l.nodes - l.k

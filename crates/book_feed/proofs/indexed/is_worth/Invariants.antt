-- `is_worth` is safe and ends: a count of near queries is at most the number of the next one.
use Prim.Native.Nat.{◌-◌, ◌≤◌}
use Rattle.book_feed.proofs.indexed.is_worth.Given as goal

abbrev pub invariant-loop-k : goal.invariant-loop-k
invariant-loop-k l = l.near ≤ l.k

abbrev pub decreases-loop-k : goal.decreases-loop-k
decreases-loop-k l = l.n - l.k

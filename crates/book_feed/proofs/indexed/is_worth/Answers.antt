-- `is_worth` is safe and ends: a count of near queries is at most the number of the next one.
use native.Mathlib.Omega.{arith}
use Rattle.book_feed.proofs.indexed.is_worth.Goals as goal

pub loop-k-init : goal.loop-k-init
loop-k-init c = omega arith

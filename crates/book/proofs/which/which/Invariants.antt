-- `which::which` meets its contract. The loop's invariant: the whole answer is that of the sheets from `at` on, above
-- the bits of the first i zones.
use Prim.Native.Nat.{◌-◌}
use Rattle.book.proofs.Laws.Walked.{Walked}
use Rattle.book.proofs.which.which.Given as goal

abbrev pub invariant-loop-i : goal.invariant-loop-i
invariant-loop-i l = Walked l.book l.grid l.query l.at l.zones l.i

abbrev pub decreases-loop-i : goal.decreases-loop-i
decreases-loop-i l = 64 - l.i

-- `book_check` meets its contract.
use Prim.Native.Nat.{◌-◌}
use Rattle.book_feed.proofs.Laws.Books.{Checked}
use Rattle.book_feed.proofs.whole.book_check.Given as goal

abbrev pub invariant-loop-i : goal.invariant-loop-i
invariant-loop-i l = Checked l.book l.at l.i

abbrev pub decreases-loop-i : goal.decreases-loop-i
decreases-loop-i l = 64 - l.i

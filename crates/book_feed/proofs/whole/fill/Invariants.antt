-- `fill` meets its contract: the first i sheets are in every result.
use mathlib.Core.Path.{◌≡◌}
use Prim.Native.Nat.{◌-◌}
use lib.ListN.{length}
use Rattle.book_feed.proofs.Laws.Books.{Checked}
use Rattle.book_feed.proofs.Laws.Filled.{Filled}
use Rattle.book_feed.proofs.whole.fill.Given as goal

abbrev pub invariant-loop-i : goal.invariant-loop-i
invariant-loop-i l =
    Checked l.book l.at l.i × Filled l.book l.grid l.queries l.initial.results l.at l.i l.results × (length l.results ≡ length l.initial.results)

abbrev pub decreases-loop-i : goal.decreases-loop-i
decreases-loop-i l = 64 - l.i

-- `add_all` meets its contract.
use mathlib.Core.Path.{◌≡◌}
use Prim.Native.Nat.{◌-◌, ◌≤◌}
use lib.ListN.{length}
use Rattle.feed.specs.Feed.{query_count}
use Rattle.book_feed.proofs.Laws.Adding.{partly}
use Rattle.book_feed.proofs.adding.add_all.Given as goal

abbrev pub invariant-loop-k : goal.invariant-loop-k
invariant-loop-k l =
    (l.k ≤ query_count l.queries) × (l.results ≡ partly l.zone (λ P. l.answer) l.queries l.initial.results l.k)
    × (length l.results ≡ length l.initial.results)

abbrev pub decreases-loop-k : goal.decreases-loop-k
decreases-loop-k l = l.n - l.k

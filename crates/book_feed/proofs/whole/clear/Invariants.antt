-- `clear` meets its contract.
use mathlib.Core.Path.{◌≡◌}
use mathlib.Core.List.{List}
use Prim.Native.Nat.{ℕ, ◌-◌, ◌≤◌}
use lib.ListN.{length}
use lib.Seq.{sets}
use Rattle.feed.specs.Feed.{query_count, resultsBytes}
use Rattle.book.specs.Sets.{no_zones, found_of}
use Rattle.book_feed.specs.Records.{record_bytes}
use Rattle.book_feed.proofs.whole.clear.Given as goal

abbrev pub empty : ℕ → List ℕ
empty k = record_bytes (found_of no_zones)

abbrev pub invariant-loop-k : goal.invariant-loop-k
invariant-loop-k l =
    (l.k ≤ query_count l.queries) × (l.results ≡ sets l.initial.results 0 (resultsBytes empty l.k)) × (length l.results ≡ length l.initial.results)

abbrev pub decreases-loop-k : goal.decreases-loop-k
decreases-loop-k l = l.n - l.k

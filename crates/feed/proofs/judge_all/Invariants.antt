-- `judge_all` meets its contract: before query i the first i results are stored.
use mathlib.Core.Path.{◌≡◌}
use Prim.Native.Nat.{◌-◌, ◌≤◌}
use lib.ListN.{length}
use lib.Seq.{sets}
use Rattle.sphere.specs.Point.{limit_of}
use Rattle.feed.specs.Feed.{result_of, resultsBytes}
use Rattle.feed.proofs.judge_all.Given as goal

abbrev pub invariant-loop-i : goal.invariant-loop-i
invariant-loop-i l =
    (l.i ≤ l.n) × (length l.results ≡ length l.initial.results)
    × (l.results ≡ sets l.initial.results 0 (resultsBytes (result_of (limit_of l.grid) l.vertices l.known l.second l.queries) l.i))
    × (length l.near ≡ length l.initial.near)

abbrev pub decreases-loop-i : goal.decreases-loop-i
decreases-loop-i l =
    l.n - l.i

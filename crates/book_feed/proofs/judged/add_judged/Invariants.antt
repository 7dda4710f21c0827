-- `add_judged` meets its contract: the first k results have the zone, the others are as they were.
use mathlib.Core.Path.{◌≡◌}
use mathlib.Core.List.{List}
use Prim.Native.Nat.{◌-◌, ◌≤◌}
use lib.IntN.{ℤ}
use lib.ListN.{length}
use Rattle.sphere.specs.declared.point.Grid.{Grid}
use Rattle.sphere.specs.declared.point.Point.{Point}
use Rattle.sphere.specs.Point.{limit_of}
use Rattle.answer.specs.Refusal.{Answer}
use Rattle.polygon.specs.Verdict.{answer_of}
use Rattle.polygon.specs.Pair.{judge_from}
use Rattle.feed.specs.Feed.{query_count}
use Rattle.book_feed.proofs.Laws.Adding.{partly}
use Rattle.book_feed.proofs.judged.add_judged.Given as goal

-- The single call's answer.
abbrev pub single : Grid → List ℤ → Point → Point → Point → Answer
single grid vs X Y P = answer_of (limit_of grid) vs (judge_from X Y P) P

abbrev pub invariant-loop-k : goal.invariant-loop-k
invariant-loop-k l =
    (l.k ≤ query_count l.queries) × (l.results ≡ partly l.zone (single l.grid l.vertices l.known l.second) l.queries l.initial.results l.k)
    × (length l.results ≡ length l.initial.results) × (length l.near ≡ length l.initial.near)

abbrev pub decreases-loop-k : goal.decreases-loop-k
decreases-loop-k l =
    l.n - l.k

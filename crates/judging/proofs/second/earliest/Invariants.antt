-- `earliest` meets its contract: no candidate before i passed.
use Rattle.std.proofs.Common.{◌≡◌, ◌<◌, ◌≤◌, ℕ}
use Rattle.sphere.specs.declared.point.Point.{Point}
use Rattle.sphere.specs.Point.{limit_of}
use Rattle.polygon.specs.Pair.{is_second}
use Rattle.answer.proofs.Laws.Search.{Searched}
use Rattle.judging.proofs.second.earliest.Given as goal

abbrev pub invariant-loop-i : goal.invariant-loop-i
invariant-loop-i g l =
    (l.i ≤ l.n) × ((points : ℕ → Point) → ((j : ℕ) (p : Point) → j < l.n → goal.F-post g l.candidate j p → p ≡ points j) →
    Searched (λ i. is_second (limit_of l.grid) l.vertices l.known (points i)) l.n l.i)

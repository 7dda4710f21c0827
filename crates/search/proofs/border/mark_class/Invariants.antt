-- `mark_class` meets its contract: what was counted and marked before run r, a span, and the edges left out before and
-- after it, which are not coincident with edge i, are counted and marked before the next run.
use mathlib.Core.Bool.{Bool}
use mathlib.Core.List.{List}
use Prim.Native.Nat.{ℕ, ◌+◌, ◌-◌, ◌/◌, ◌≤◌}
use lib.IntN.{ℤ}
use Rattle.polygon.specs.Vertices.{vertices_count, start_of, end_of}
use Rattle.polygon.specs.Border.{is_coincident}
use Rattle.corridors.specs.Marked.{Marked}
use Rattle.search.specs.Boxes.{run_count}
use Rattle.search.specs.Spans.{run_start}
use Rattle.search.proofs.Laws.Counted.{Counted}
use Rattle.search.proofs.border.mark_class.Given as goal

-- Of the edges from `from` on, those before j.
pub record Reached (test : ℕ → Bool) (from : ℕ) (marks : List ℕ) (j count : ℕ) (now : List ℕ) : Type 0 where
  pub after : from ≤ j
  pub counted : Counted test from j count
  pub marked : Marked test from j marks now

-- Before run r, of the edges from the run of edge i on.
pub record Come (vs : List ℤ) (i : ℕ) (marks now : List ℕ) (r count : ℕ) : Type 0 where
  pub before : r ≤ run_count (vertices_count vs) + 1
  pub reached : Reached (is_coincident vs (start_of vs i) (end_of vs i)) (run_start (vertices_count vs) (i / 32)) marks
      (run_start (vertices_count vs) r) count now

abbrev pub invariant-loop-arc : goal.invariant-loop-arc
invariant-loop-arc l = Come l.vertices l.i l.initial.marks l.marks l.r l.count

abbrev pub decreases-loop-arc : goal.decreases-loop-arc
decreases-loop-arc l = run_count (vertices_count l.vertices) - l.r

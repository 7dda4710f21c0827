-- Runs that are skipped and runs that are not (document 02, P2): for the code alone. Defined, in order: run_start;
-- Cornered, is_run (one run); Spanned (edges that are walked together).
use Rattle.std.specs.Prelude.{◌≡◌, Bool, true, List, ℕ, ◌+◌, ◌*◌, ◌-◌, ◌≤◌, ◌<◌, ℤ, length}
use Rattle.std.specs.Bool.{beq}
use Rattle.sphere.specs.declared.point.Point.{Point}
use Rattle.sphere.specs.Point.{Within}
use Rattle.polygon.specs.Vertices.{vertices_count}
use Rattle.search.specs.declared.spans.Span.{Span}
use Rattle.search.specs.Boxes.{run_count, box_at, is_apart}
use Rattle.search.specs.Scan.{is_one_sided}

-- Where run r begins, or the end of n edges: the lesser of r * 32 and n.
abbrev pub run_start : ℕ → ℕ → ℕ
run_start n r = n - (n - r * 32)

-- The boxes of the first `runs` runs are there, and within the grid.
pub record Cornered (limit : ℕ) (boxes : List ℤ) (runs : ℕ) : Type 0 where
  pub room : runs * 6 ≤ length boxes
  pub few : runs ≤ 128
  pub each : (r : ℕ) → r < runs → Within limit (box_at boxes r).low × Within limit (box_at boxes r).high

-- Run r is skipped exactly when `skipped` says so.
unfoldable pub is_run : List ℤ → Point → Bool → ℕ → Bool
is_run boxes N skipped r = beq (is_apart N (box_at boxes r)) skipped

-- Of the edges from run r on, those left out before the span, and after it before the next run, matter not. An empty
-- span is at the end; another one goes to the end of run r, or further.
pub record Spanned (vs : List ℤ) (X P : Point) (r : ℕ) (s : Span) : Type 0 where
  pub after : run_start (vertices_count vs) r ≤ s.from
  pub within : s.to ≤ vertices_count vs
  pub last : s.to ≤ s.from → s.from ≡ vertices_count vs
  pub onward : s.from < s.to → (r < s.next) × (s.next ≤ run_count (vertices_count vs) + 1)
  pub whole : s.from < s.to → run_start (vertices_count vs) (r + 1) ≤ s.to
  pub behind : s.to ≤ run_start (vertices_count vs) s.next
  pub left_before : (j : ℕ) → run_start (vertices_count vs) r ≤ j → j < s.from → is_one_sided vs X P j ≡ true
  pub left_after : (j : ℕ) → s.to ≤ j → j < run_start (vertices_count vs) s.next → is_one_sided vs X P j ≡ true

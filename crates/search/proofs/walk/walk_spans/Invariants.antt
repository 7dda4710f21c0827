-- `walk_spans` meets its contract: what was tallied before run r, a span, and the edges left out before and after it
-- are tallied before the next run.
use Prim.Native.Nat.{◌+◌, ◌-◌, ◌/◌, ◌≤◌}
use Rattle.polygon.specs.Vertices.{vertices_count}
use Rattle.search.specs.Boxes.{run_count}
use Rattle.search.specs.Spans.{run_start}
use Rattle.std.specs.Prelude.{max}
use Rattle.search.specs.Walk.{stops_at}
use Rattle.search.proofs.Laws.Tally.{TalliedOn}
use Rattle.search.proofs.walk.walk_spans.Given as goal

abbrev pub invariant-loop-arc : goal.invariant-loop-arc
invariant-loop-arc l =
    (l.from / 32 ≤ l.r) × (l.r ≤ run_count (vertices_count l.vertices) + 1)
    × TalliedOn (stops_at l.vertices l.arc.to l.stop) l.vertices l.arc.from l.arc.to l.from
    (max l.from (run_start (vertices_count l.vertices) l.r)) l.crossed l.sum

abbrev pub decreases-loop-arc : goal.decreases-loop-arc
decreases-loop-arc l = run_count (vertices_count l.vertices) - l.r

-- `is_ahead` meets its contract: no vertex before i is one that does not lie ahead.
use Rattle.std.proofs.Common.{◌-◌, ◌≤◌}
use Rattle.answer.proofs.Laws.Search.{Searched}
use Rattle.polygon.specs.Vertices.{vertices_count}
use Rattle.separation.specs.Separation.{is_not_ahead}
use Rattle.separation.proofs.planes.is_ahead.Given as goal

abbrev pub invariant-loop-i : goal.invariant-loop-i
invariant-loop-i l =
    (l.i ≤ vertices_count l.vertices) × Searched (is_not_ahead l.vertices l.normal) (vertices_count l.vertices) l.i

abbrev pub decreases-loop-i : goal.decreases-loop-i
decreases-loop-i l = l.n - l.i

-- The test of `same_check` meets its contract: the ends of an edge are on the grid.
use Rattle.polygon.proofs.Laws.Edges.{ends_within}
use Rattle.polygon.proofs.checks.fn.same_check.first_below.Goals as goal

pub same_direction-requires : goal.same_direction-requires
same_direction-requires c = ends_within c.requires.1 c.requires.0 c.vertex_at.ensures c.end_of.ensures

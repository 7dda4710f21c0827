-- `check_basin` meets its contract: the second edge of a pair is below the number of vertices, and fits.
use Rattle.std.proofs.Common.{rules, ◌≡◌, Ok, sym, ◌∙◌, arith}
use Rattle.sphere.specs.Point.{limit_of, grid_numbered}
use Rattle.polygon.specs.Vertices.{vertices_count}
use Rattle.polygon.specs.Checks.{polygon_check}
use Rattle.polygon.proofs.Laws.Checks.{polygon_passed}
use Rattle.basin.specs.Pairs.{is_offending, first_pair_of}
use Rattle.basin.proofs.Laws.FirstPair.{pairs_found}
use Rattle.basin.proofs.Laws.Offending.{basin_polygon}
use Rattle.basin.proofs.profile.check_basin.Goals as goal

pub overflow_cast-result : goal.overflow_cast-result
unfolding first_pair_of
overflow_cast-result c =
    let vs = c.args.vertices.now in
    let passed : polygon_check (limit_of (grid_numbered c.args.grid)) vs ≡ Ok tt = search (rules, basin_polygon) in
    let found = pairs_found (is_offending vs) 0 (vertices_count vs) c.in-Some.first c.in-Some.second
    (sym c.first_pair.ensures ∙ c.in-Some.is) in
    omega (arith, found.below, (polygon_passed passed).0.most)

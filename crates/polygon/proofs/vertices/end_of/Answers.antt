-- `end_of` meets its contract.
use native.Mathlib.Omega.{arith}
use Rattle.polygon.specs.Vertices.{vertices_count}
use Rattle.polygon.proofs.Laws.Edges.{next_below}
use Rattle.polygon.proofs.vertices.end_of.Goals as goal

pub vertex_at-requires : goal.vertex_at-requires
vertex_at-requires c =
    let s = c.before in
    omega (arith, c.next_of.ensures, next_below (vertices_count s.args.vertices.now) s.args.i s.requires)

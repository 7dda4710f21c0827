-- `next_other` meets its contract: after edge `first`, those before edge i that hold the query are of its class.
use Rattle.polygon.proofs.Laws.Checks.{gridded_fine}
use Rattle.polygon.proofs.Laws.Edges.{end_within}
use Rattle.search.proofs.Laws.Arc.{reference}
use Rattle.search.proofs.border.next_other.Goals as goal

pub joins-requires : goal.joins-requires
joins-requires c =
    let p = c.requires in
    let e = rw c.in_ok-edge.was at c.next_held.ensures in
    let grid = gridded_fine c.args.arc.plane.grid (reference p.0.aimed).accepted.gridded in
    (grid, e.before, rw c.vertex_at-c.ensures (grid.each c.args.first p.1), end_within grid p.1 c.end_of-d.ensures)

-- `stops_at` meets its contract.
use Rattle.sphere.proofs.Laws.Plane.{grid→fine}
use Rattle.polygon.proofs.Laws.Checks.{gridded_fine}
use Rattle.polygon.proofs.Laws.Edges.{end_within}
use Rattle.search.proofs.Laws.Arc.{reference}
use Rattle.search.proofs.border.stops_at.Goals as goal

pub on_edge_by-requires-clause-within : goal.on_edge_by-requires-clause-within
on_edge_by-requires-clause-within c =
    let h = c.requires.accepted_arc in
    let g = c.args.arc.plane.grid in
    let grid = gridded_fine g (reference h.0).accepted.gridded in
    (rw c.vertex_at.ensures (grid.each c.args.i h.1), end_within grid h.1 c.end_of.ensures, grid→fine g h.0.sound.query)

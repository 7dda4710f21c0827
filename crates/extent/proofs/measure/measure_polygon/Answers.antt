-- `measure_polygon` meets its contract: the antipode of vertex 0 is behind a plane just where the polygon is ahead of
-- it.
use native.Mathlib.Omega.{arith}
use Rattle.separation.proofs.Behind.{reverse_within}
use Rattle.extent.proofs.Laws.Told.{gridded_of}
use Rattle.extent.proofs.measure.measure_polygon.Goals as goal

pub is_behind-found-requires : goal.is_behind-found-requires
is_behind-found-requires c =
    let g = gridded_of c.args.grid _ _ _ c.requires.0 in
    let few = g.1 in
    (c.planes_of-planes.ensures, rw c.away-back.ensures (reverse_within (g.0.each 0 (omega arith))))

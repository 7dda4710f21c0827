-- `put_sectors` meets its contract.
use mathlib.Core.Path.{◌≡◌, ◌∙◌, ap}
use mathlib.Core.List.{List}
use native.Mathlib.Omega.{arith}
use lib.IntN.{ℤ}
use Rattle.std.specs.declared.result.Result.TheVariants.{Ok}
use Rattle.sphere.specs.declared.point.Grid.{Grid}
use Rattle.sphere.specs.declared.point.Point.{Point}
use Rattle.sphere.specs.Point.{fine, limit_of}
use Rattle.sphere.proofs.Laws.Plane.{grid→fine}
use Rattle.polygon.specs.Accepted.{Listed, Gridded}
use Rattle.polygon.specs.Checks.{accept_check}
use Rattle.polygon.proofs.Laws.Checks.{Reference, reference_accepted, gridded_fine}
use Rattle.polygon.proofs.Laws.Edges.{end_within}
use Rattle.azimuths.specs.declared.azimuth.Frame.{Frame}
use Rattle.azimuths.specs.Azimuth.{azimuth_of, FrameAt}
use Rattle.azimuths.specs.Sectors.{FrameGridded}
use Rattle.azimuths.proofs.Laws.Sectors.{turn_short}
use Rattle.azimuths.proofs.Laws.SectorsTo.{sectors_start, sectors_step}
use Rattle.azimuths.proofs.sectors.put_sectors.Goals as goal

-- The polygon and the frame, on either grid.
module _ (grid : Grid) (vs : List ℤ) (X : Point) (accepted : accept_check (limit_of grid) vs X ≡ Ok tt) where
  reference : Reference (limit_of grid) vs X
  reference = reference_accepted _ _ _ accepted

  listed : Listed vs
  listed = reference.accepted.listed

  gridded : Gridded fine vs
  gridded = gridded_fine grid reference.accepted.gridded

  framed : {F : Frame} → FrameAt X F → FrameGridded F
  framed at =
      let w = at.within fine (grid→fine grid reference.accepted.known) in record { east = w.0; north = w.1 }

pub vertex_at-requires : goal.vertex_at-requires
vertex_at-requires c = omega (arith, (listed c.args.grid _ _ c.requires.0).least)

pub azimuth-first-requires : goal.azimuth-first-requires
azimuth-first-requires c =
    let g = c.args.grid in
    let point = (gridded g _ _ c.requires.0).each 0 (omega (arith, (listed g _ _ c.requires.0).least)) in
    record { frame = framed g _ _ c.requires.0 c.requires.1; point = rw c.vertex_at.ensures point }

pub loop-i-init : goal.loop-i-init
loop-i-init c = sectors_start (c.azimuth-first.ensures ∙ ap (azimuth_of c.args.frame) c.vertex_at.ensures)

pub azimuth-second-requires : goal.azimuth-second-requires
azimuth-second-requires c =
    let g = c.args.grid in record {
      frame = framed g _ _ c.requires.0 c.requires.1;
      point = end_within (gridded g _ _ c.requires.0) c.loop-i-test.true c.end_of.ensures;
    }

pub turns_left-requires : goal.turns_left-requires
turns_left-requires c =
    let a = (reference c.args.grid _ _ c.requires.0).accepted in (a.listed, a.gridded, a.known, c.loop-i-test.true)

pub sector_of-sector-requires : goal.sector_of-sector-requires
sector_of-sector-requires c =
    let i = c.loop-i-test.true in
    let short = turn_short c.requires.1 _ _ ((reference c.args.grid _ _ c.requires.0).off_circle _ i) in
    rw (c.turns_left.ensures, c.loop-i.invariant.start i, c.azimuth-second.ensures, c.end_of.ensures) (omega (arith, short))

pub loop-i-preserved : goal.loop-i-preserved
loop-i-preserved c =
    let sector = c.sector_of-sector in
    sectors_step c.loop-i.invariant c.loop-i-test.true c.requires.2 sector.result.start sector.result.width
    (c.azimuth-second.ensures ∙ ap (azimuth_of c.args.frame) c.end_of.ensures) c.turns_left.ensures sector.ensures.0
    sector.ensures.1

-- The arc from the reference point to a query: for the code alone. Defined, in order: arc_of, SoundArc (the points and
-- the plane belong together), AcceptedArc, Searchable (what a search by that arc wants). That arc_of is sound:
-- proofs/Laws/Arc.
use Rattle.std.specs.Prelude.{Bool, ◌≡◌, List, ℤ}
use Rattle.sphere.specs.declared.point.Point.{Point}
use Rattle.sphere.specs.declared.point.Grid.{Grid}
use Rattle.sphere.specs.Point.{limit_of, Within}
use Rattle.sphere.specs.Orientation.{cross_of}
use Rattle.sphere.specs.Plane.{plane_of, Sound}
use Rattle.polygon.specs.Checks.{accept_check}
use Rattle.search.specs.declared.arc.Arc.{Arc}
use Rattle.search.specs.Boxes.{Boxed}
use Rattle.std.specs.declared.result.Result.TheVariants.{Ok}

unfoldable pub arc_of : Grid → Point → Point → Bool → Arc
arc_of g X P by-boxes = record { from = X; to = P; plane = plane_of g X P; by_boxes = by-boxes }

-- Both points are within the grid, and the plane is the one through them.
pub record SoundArc (arc : Arc) : Type 0 where
  pub known : Within (limit_of arc.plane.grid) arc.from
  pub query : Within (limit_of arc.plane.grid) arc.to
  pub through : arc.plane.normal ≡ cross_of arc.from arc.to
  pub sound : Sound arc.plane

-- The polygon accepts the reference point.
pub record AcceptedArc (vs : List ℤ) (arc : Arc) : Type 0 where
  pub accepted : accept_check (limit_of arc.plane.grid) vs arc.from ≡ Ok tt
  pub sound : SoundArc arc

-- And the boxes are the polygon's.
pub record Searchable (vs boxes : List ℤ) (arc : Arc) : Type 0 where
  pub aimed : AcceptedArc vs arc
  pub boxed : Boxed vs boxes

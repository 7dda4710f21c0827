-- On which side of a plane a point lies, where it is sure: for the code alone. Defined: Sure.
use Rattle.std.specs.Prelude.{◌≡◌, true, cond}
use Rattle.integers.specs.Sign.{positive, negative, sign_of}
use Rattle.sphere.specs.declared.point.Point.{Point}
use Rattle.sphere.specs.Orientation.{dot_of}
use Rattle.cones.specs.declared.sure.SureSide.{SureSide}

-- By the plane's normal N. Where it is not sure, nothing is said.
pub record Sure (N P : Point) (r : SureSide) : Type 0 where
  pub side : r.sure ≡ true → sign_of (dot_of N P) ≡ cond r.left positive negative

-- Line 16, edge by edge. Defined: is_on_circle. For the code alone: the line's own definition is in specs/Checks.
use Rattle.std.specs.Prelude.{Bool, List, ℕ, ℤ}
use Rattle.integers.specs.Sign.{sign_of, is_zero}
use Rattle.sphere.specs.declared.point.Point.{Point}
use Rattle.sphere.specs.Orientation.{orientation_of}
use Rattle.polygon.specs.Vertices.{start_of, end_of}

-- The great circle of edge i holds the point.
abbrev pub is_on_circle : List ℤ → Point → ℕ → Bool
is_on_circle vs X i = is_zero (sign_of (orientation_of (start_of vs i) (end_of vs i) X))

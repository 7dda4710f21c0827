-- A box around directions, as a database indexes them. Defined, in order: Between, InBox (the point divided by its
-- greatest number lies in the box), whole_sides (the box that holds everything), axis, is_fronted, box_bytes; Bounds,
-- Encloses (what the code holds of six bounds). A box is six numbers in units of 2^-30: a point lies in it if low * m <=
-- 2^30 * number <= high * m for each of its three numbers, m the greatest of them in size (separation/specs/Axes).
use Rattle.std.specs.Prelude.{Bool, ◌||◌, List, ◌++◌, ℕ, ℤ, pos, negsuc, ◌*ℤ◌, ◌≤ℤ◌}
use Rattle.sphere.specs.declared.point.Point.{Point}
use Rattle.sphere.specs.Point.{Within}
use Rattle.separation.specs.Separation.{is_ahead}
use Rattle.separation.specs.Planes.{Behind}
use Rattle.separation.specs.Axes.{unit, greatest, Lower}
use Rattle.big_endian.specs.Bytes.{point_bytes}
use Rattle.extent.specs.declared.sides.Sides.{Sides}

-- A number k of a point whose greatest is m.
pub record Between (low high k : ℤ) (m : ℕ) : Type 0 where
  pub least : (low *ℤ pos m) ≤ℤ (pos unit *ℤ k)
  pub most : (pos unit *ℤ k) ≤ℤ (high *ℤ pos m)

pub record InBox (s : Sides) (P : Point) : Type 0 where
  pub at_x : Between s.low.x s.high.x P.x (greatest P)
  pub at_y : Between s.low.y s.high.y P.y (greatest P)
  pub at_z : Between s.low.z s.high.z P.z (greatest P)

abbrev pub whole_sides : Sides
whole_sides = record {
  low = record { x = negsuc 1073741823; y = negsuc 1073741823; z = negsuc 1073741823 };
  high = record { x = pos unit; y = pos unit; z = pos unit };
}

-- All vertices are strictly on one side of a coordinate plane.
abbrev pub axis : ℤ → ℤ → ℤ → Point
axis x y z = record { x = x; y = y; z = z }

unfoldable pub is_fronted : List ℤ → Bool
is_fronted vs =
    is_ahead vs (axis (pos 1) (pos 0) (pos 0)) || (is_ahead vs (axis (negsuc 0) (pos 0) (pos 0))
    || (is_ahead vs (axis (pos 0) (pos 1) (pos 0)) || (is_ahead vs (axis (pos 0) (negsuc 0) (pos 0))
    || (is_ahead vs (axis (pos 0) (pos 0) (pos 1)) || is_ahead vs (axis (pos 0) (pos 0) (negsuc 0))))))

-- 24 bytes: low x, y, z, high x, y, z.
abbrev pub box_bytes : Sides → List ℕ
box_bytes s = point_bytes s.low ++ point_bytes s.high

-- ---- the six bounds

pub record Bounds (vs : List ℤ) (sign : ℤ) (r : Point) : Type 0 where
  pub along_x : Lower vs (axis sign (pos 0) (pos 0)) r.x
  pub along_y : Lower vs (axis (pos 0) sign (pos 0)) r.y
  pub along_z : Lower vs (axis (pos 0) (pos 0) sign) r.z

-- Whatever no plane separates from the polygon lies in the box.
pub record Encloses (vs : List ℤ) (s : Sides) : Type 0 where
  pub low_range : Within unit s.low
  pub high_range : Within unit s.high
  pub each : (P : Point) → (Behind vs P → ⊥) → InBox s P

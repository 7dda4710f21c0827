-- Directions about the reference point as numbers: for the code alone. Defined, in order: seen (how large the
-- coordinates are), quarter_of, part_of, across_of, azimuth_by, azimuth_of, gap_of; Aside (a point that has a direction),
-- AsideIf, FrameAt.
use Rattle.std.specs.Prelude.{◌≡◌, Bool, true, false, ℕ, ◌+◌, ◌*◌, ◌-◌, ◌/◌, ◌%◌, ◌<◌, ℤ, pos, nat_abs, ◌*ℤ◌}
use Prim.{Unit}
use Rattle.integers.specs.Sign.{sign_of, is_negative}
use Rattle.sphere.specs.declared.point.Point.{Point}
use Rattle.sphere.specs.Point.{Within}
use Rattle.sphere.specs.Orientation.{cross_of, dot_of}
use Rattle.azimuths.specs.declared.azimuth.Frame.{Frame}

-- A dot product of two points of the fine grid is at most this in size: 3 * 2^52.
abbrev pub seen : ℕ
seen = 13510798882111488

-- The first azimuth of a quarter turn, by whether the two coordinates are negative.
abbrev pub quarter_of : Bool → Bool → ℕ
quarter_of false false = 0
quarter_of true false = 16384
quarter_of true true = 32768
quarter_of false true = 49152

-- How far a direction is into its quarter: 0 at its start, 16384 at its end. Of its two sizes the one that grows is b.
abbrev pub part_of : ℕ → ℕ → ℕ
part_of b d = b * 16384 / d

abbrev pub across_of : Bool → Bool → ℕ → ℕ → ℕ
across_of false false a b = b
across_of true false a b = a
across_of true true a b = b
across_of false true a b = a

-- By the coordinates along east and north.
unfoldable pub azimuth_by : ℤ → ℤ → ℕ
azimuth_by u v =
    let west = is_negative (sign_of u) in
    let south = is_negative (sign_of v) in
    quarter_of west south + part_of (across_of west south (nat_abs u) (nat_abs v)) (nat_abs u + nat_abs v)

unfoldable pub azimuth_of : Frame → Point → ℕ
azimuth_of F P = azimuth_by (dot_of F.east P) (dot_of F.north P)

-- How far azimuth a is after azimuth b, going round.
abbrev pub gap_of : ℕ → ℕ → ℕ
gap_of a b = (a + 65536 - b) % 65536

-- P is neither in the direction of the reference point nor opposite.
pub record Aside (F : Frame) (P : Point) : Type 0 where
  pub seen_from : dot_of F.east P ≡ pos 0 → dot_of F.north P ≡ pos 0 → ⊥

-- By its coordinates, where a test says so.
abbrev pub AsideIf : ℤ → ℤ → Bool → Type 0
AsideIf u v true = u ≡ pos 0 → v ≡ pos 0 → ⊥
AsideIf u v false = Unit {0}

-- East, north and X: the cross product of the first two is X, `times` times. Their numbers are those of X.
pub record FrameAt (X : Point) (F : Frame) : Type 0 where
  pub times : ℕ
  pub at_x : (cross_of F.east F.north).x ≡ pos times *ℤ X.x
  pub at_y : (cross_of F.east F.north).y ≡ pos times *ℤ X.y
  pub at_z : (cross_of F.east F.north).z ≡ pos times *ℤ X.z
  pub some : 0 < times
  pub within : (limit : ℕ) → Within limit X → Within limit F.east × Within limit F.north

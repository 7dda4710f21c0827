-- Edges that join the directions of two points, found and marked (document 02, P3): for the code alone. Defined, in
-- order: sum_of, number_of, is_off (a point); OffBetween, Elsewhere, Unjoined, JoinedAt, NextJoined (vertices and
-- edges that are passed); MarkedAt, Marked (marks). Which edges join two directions: polygon's specs/Border.
use Rattle.std.specs.Prelude.{◌≡◌, Bool, true, false, not, cond, List, ℕ, ◌≤◌, ◌<◌, ℤ, ◌+ℤ◌, length, get_or, Option, None, Some}
use Rattle.corridors.specs.declared.border.Axis.{Axis}
use Rattle.corridors.specs.declared.border.Axis.TheVariants.{X, Y, Z, Sum}
use Rattle.integers.specs.Sign.{sign_of, is_zero}
use Rattle.sphere.specs.declared.point.Point.{Point}
use Rattle.sphere.specs.Orientation.{cross_of}
use Rattle.sphere.specs.Direction.{is_same_direction}
use Rattle.polygon.specs.Vertices.{vertex_at}
use Rattle.polygon.specs.Border.{is_coincident}

-- A point that has not the direction of C, by one number of the cross product alone, or by the sum of all three: laws
-- in proofs/Laws/Off.
abbrev pub sum_of : Point → ℤ
sum_of n = n.x +ℤ n.y +ℤ n.z

abbrev pub number_of : Axis → Point → ℤ
number_of X n = n.x
number_of Y n = n.y
number_of Z n = n.z
number_of Sum n = sum_of n

abbrev pub is_off : Axis → Point → Point → Bool
is_off axis C P = not (is_zero (sign_of (number_of axis (cross_of C P))))

-- No vertex from i on, before `to`, has the direction of C.
pub record OffBetween (vs : List ℤ) (C : Point) (i to : ℕ) : Type 0 where
  pub after : i ≤ to
  pub each : (j : ℕ) → i ≤ j → j < to → is_same_direction C (vertex_at vs j) ≡ false

-- No edge from i on, before `to`, has an end in the direction of C.
pub record Elsewhere (vs : List ℤ) (C : Point) (i to : ℕ) : Type 0 where
  pub after : i ≤ to
  pub each : (D : Point) (j : ℕ) → i ≤ j → j < to → is_coincident vs C D j ≡ false

-- No edge from i on, before `to`, joins the directions of C and D; and the first before `to` that does, if any.
pub record Unjoined (vs : List ℤ) (C D : Point) (i to : ℕ) : Type 0 where
  pub after : i ≤ to
  pub each : (j : ℕ) → i ≤ j → j < to → is_coincident vs C D j ≡ false

pub record JoinedAt (vs : List ℤ) (C D : Point) (i to at : ℕ) : Type 0 where
  pub passed : Unjoined vs C D i at
  pub before : at < to
  pub joined : is_coincident vs C D at ≡ true

abbrev pub NextJoined : List ℤ → Point → Point → ℕ → ℕ → Option ℕ → Type 0
NextJoined vs C D i to None = Unjoined vs C D i to
NextJoined vs C D i to (Some at) = JoinedAt vs C D i to at

-- Marks of edges, a number for each: edge i is marked, where there is a mark for it, and no other mark changes.
pub record MarkedAt (i : ℕ) (marks after : List ℕ) : Type 0 where
  pub room : length after ≡ length marks
  pub own : i < length marks → get_or after i 0 ≡ 1
  pub other : (j : ℕ) → (j ≡ i → ⊥) → get_or after j 0 ≡ get_or marks j 0

-- The same of all edges from `from` on, before `to`, for which the test holds.
pub record Marked (test : ℕ → Bool) (from to : ℕ) (marks after : List ℕ) : Type 0 where
  pub room : length after ≡ length marks
  pub before : (j : ℕ) → j < from → get_or after j 0 ≡ get_or marks j 0
  pub each : (j : ℕ) → from ≤ j → j < to → j < length marks → get_or after j 0 ≡ cond (test j) 1 (get_or marks j 0)
  pub beyond : (j : ℕ) → to ≤ j → get_or after j 0 ≡ get_or marks j 0

-- Document 02, P9: 'share' means that some direction lies on both closed arcs. Defined, in order: Shared, SharedBeyond
-- (of neighbours: a direction that is not their common vertex's); the tests by signs: is_opposed, meets_by, is_met,
-- is_shared, is_shared_beyond. That the tests decide what the first two say: Claims.SharedDecided, Claims.BeyondDecided.
use Rattle.std.specs.Prelude.{◌≡◌, Bool, false, ◌&&◌, ◌||◌, cond}
use Rattle.integers.specs.Sign.{Sign, sign_of, is_negative, is_positive}
use Rattle.sphere.specs.declared.point.Point.{Point}
use Rattle.sphere.specs.Point.{is_null}
use Rattle.sphere.specs.Orientation.{orientation_of}
use Rattle.sphere.specs.Direction.{is_same_direction}
use Rattle.sphere.specs.OnEdge.{OnEdge, is_on_edge}

-- The edges from A to B and from C to D share a point: a direction, as it is not all zero, on both of them.
pub record Shared (A B C D : Point) : Type 0 where
  pub point : Point
  pub some : is_null point ≡ false
  pub first : OnEdge A B point
  pub second : OnEdge C D point

-- The neighbours from U to M and from M to W share more than their common vertex.
pub record SharedBeyond (U M W : Point) : Type 0 where
  pub point : Point
  pub some : is_null point ≡ false
  pub first : OnEdge U M point
  pub second : OnEdge M W point
  pub beyond : is_same_direction point M ≡ false

-- ---- the tests

-- Strictly on different sides of a plane.
abbrev pub is_opposed : Sign → Sign → Bool
is_opposed s t = cond (is_positive s) (is_negative t) (is_negative s && is_positive t)

-- By the signs of turn(A,B,C), turn(A,B,D), turn(C,D,A) and turn(C,D,B): the arcs cross at a point amid both. The third
-- and the fourth keep out arcs that meet only at opposite points.
abbrev pub meets_by : Sign → Sign → Sign → Sign → Bool
meets_by s1 s2 s3 s4 =
    (is_negative s1 && (is_positive s2 && (is_positive s3 && is_negative s4)))
    || (is_positive s1 && (is_negative s2 && (is_negative s3 && is_positive s4)))

abbrev pub is_met : Point → Point → Point → Point → Bool
is_met A B C D =
    meets_by
    (sign_of (orientation_of A B C))
    (sign_of (orientation_of A B D))
    (sign_of (orientation_of C D A))
    (sign_of (orientation_of C D B))

-- An end of one lies on the other, or they cross.
unfoldable pub is_shared : Point → Point → Point → Point → Bool
is_shared A B C D =
    (is_on_edge A B C || is_on_edge A B D) || ((is_on_edge C D A || is_on_edge C D B) || is_met A B C D)

-- The far end of one lies on the other.
unfoldable pub is_shared_beyond : Point → Point → Point → Bool
is_shared_beyond U M W = is_on_edge U M W || is_on_edge M W U

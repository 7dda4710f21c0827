-- The sector of an edge, the azimuths that it spans: for the code alone. Defined, in order: turn_of, early_of,
-- sector_start, sector_width, is_left; FrameGridded, FrameWithin, SectorsOf (those of all edges, one after the other);
-- is_missed_at (an edge that does not span an azimuth), is_missed (nor any of a range), MissedIn, is_passed (an edge that
-- spans an azimuth and the next); is_inside, turns_left, way_by (an edge that spans it, and ends elsewhere); Idle (an edge
-- that a query does not notice), Telling (what azimuths tell of a query).
use Rattle.std.specs.Prelude.{◌≡◌, Bool, true, false, cond, ◌&&◌, List, ℕ, ◌+◌, ◌*◌, ◌-◌, ◌%◌, ◌≤◌, ◌<◌, eqb, ltb, ℤ, length, get_or}
use Rattle.integers.specs.Sign.{Sign, negative, nought, positive, sign_of, is_positive}
use Rattle.sphere.specs.declared.point.Point.{Point}
use Rattle.sphere.specs.Point.{fine, Within}
use Rattle.sphere.specs.Orientation.{orientation_of}
use Rattle.sphere.specs.Crossing.{crossing_of}
use Rattle.polygon.specs.Vertices.{vertices_count, start_of, end_of}
use Rattle.polygon.specs.Verdict.{is_held_by}
use Rattle.azimuths.specs.declared.azimuth.Frame.{Frame}
use Rattle.azimuths.specs.Azimuth.{gap_of, azimuth_of}

-- How far an edge turns: from its first azimuth to its second, or where it does not turn left from the second to the
-- first.
abbrev pub turn_of : Bool → ℕ → ℕ → ℕ
turn_of left first second = gap_of (cond left second first) (cond left first second)

-- By how much its sector starts early: the start is odd exactly if the edge turns left.
abbrev pub early_of : Bool → ℕ → ℕ
early_of left from = (from + cond left 1 0) % 2

abbrev pub sector_start : Bool → ℕ → ℕ → ℕ
sector_start left first second = gap_of (cond left first second) (early_of left (cond left first second))

abbrev pub sector_width : Bool → ℕ → ℕ → ℕ
sector_width left first second = turn_of left first second + early_of left (cond left first second)

-- X is on the left of the edge from A to B.
abbrev pub is_left : Point → Point → Point → Bool
is_left X A B = is_positive (sign_of (orientation_of A B X))

pub record FrameGridded (F : Frame) : Type 0 where
  pub east : Within fine F.east
  pub north : Within fine F.north

pub record FrameWithin (F : Frame) (P : Point) : Type 0 where
  pub frame : FrameGridded F
  pub point : Within fine P

-- Edge i spans from number 2i on, and number 2i + 1 azimuths more.
pub record SectorsOf (vs : List ℤ) (X : Point) (F : Frame) (sectors : List ℕ) : Type 0 where
  pub room : vertices_count vs * 2 ≤ length sectors
  pub starts : (i : ℕ) → i < vertices_count vs →
      get_or sectors (i * 2) 0
      ≡ sector_start (is_left X (start_of vs i) (end_of vs i)) (azimuth_of F (start_of vs i)) (azimuth_of F (end_of vs i))
  pub widths : (i : ℕ) → i < vertices_count vs →
      get_or sectors (i * 2 + 1) 0
      ≡ sector_width (is_left X (start_of vs i) (end_of vs i)) (azimuth_of F (start_of vs i)) (azimuth_of F (end_of vs i))

-- Edge j does not span azimuth k.
abbrev pub is_missed_at : List ℕ → ℕ → ℕ → Bool
is_missed_at sectors k j = ltb (get_or sectors (j * 2 + 1) 0) (gap_of k (get_or sectors (j * 2) 0))

-- It starts after the last azimuth of a range, and the range starts after its last one.
abbrev pub is_missed : List ℕ → ℕ → ℕ → ℕ → Bool
is_missed sectors lo last j =
    ltb (last - lo) (gap_of (get_or sectors (j * 2) 0) lo)
    && ltb (get_or sectors (j * 2 + 1) 0) (gap_of lo (get_or sectors (j * 2) 0))

-- It spans no azimuth of the range.
abbrev pub MissedIn : List ℕ → ℕ → ℕ → ℕ → Type 0
MissedIn sectors lo last j = (k : ℕ) → lo ≤ k → k ≤ last → is_missed_at sectors k j ≡ true

-- Edge j spans azimuth k and the next. A hint, by which cones are parted: no answer hangs on it.
abbrev pub is_passed : List ℕ → ℕ → ℕ → Bool
is_passed sectors k j = ltb (gap_of k (get_or sectors (j * 2) 0)) (get_or sectors (j * 2 + 1) 0)

-- Azimuth k is inside the sector of edge j, and the edge ends at others: its start may be an azimuth early.
abbrev pub is_inside : List ℕ → ℕ → ℕ → Bool
is_inside sectors k j =
    ltb 1 (gap_of k (get_or sectors (j * 2) 0)) && ltb (gap_of k (get_or sectors (j * 2) 0)) (get_or sectors (j * 2 + 1) 0)

abbrev pub turns_left : List ℕ → ℕ → Bool
turns_left sectors j = eqb (get_or sectors (j * 2) 0 % 2) 1

-- Which way an edge is crossed whose ends lie on both sides of the arc: by whether the reference point is on its left,
-- and whether the query is.
abbrev pub way_by : Bool → Bool → Sign
way_by true true = nought
way_by true false = negative
way_by false true = positive
way_by false false = nought

-- The arc from X to P does not cross edge j, and P is not on it.
pub record Idle (vs : List ℤ) (X P : Point) (j : ℕ) : Type 0 where
  pub uncrossed : crossing_of X P (start_of vs j) (end_of vs j) ≡ nought
  pub unheld : is_held_by vs P j ≡ false

-- A query P at azimuth k does not notice the edges that do not span it; and those inside whose sectors it is are
-- crossed by the side of them on which it lies.
pub record Telling (vs : List ℤ) (X P : Point) (sectors : List ℕ) (k : ℕ) : Type 0 where
  pub room : vertices_count vs * 2 ≤ length sectors
  pub idle : (j : ℕ) → j < vertices_count vs → is_missed_at sectors k j ≡ true → Idle vs X P j
  pub across : (j : ℕ) → j < vertices_count vs → is_inside sectors k j ≡ true → (left : Bool) →
      sign_of (orientation_of (start_of vs j) (end_of vs j) P) ≡ cond left positive negative →
      crossing_of X P (start_of vs j) (end_of vs j) ≡ way_by (turns_left sectors j) left

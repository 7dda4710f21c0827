-- The promised theorems, as statements. Their proofs are in proofs/Claims. Stated, in order: SameRingTold (a way other
-- than 0 says just that the rings are the same), PlaceLowest (the place is the lowest forward one, else the lowest
-- backward one, else the first vertex number whose points differ), FieldsExact (the seven bytes name the fields that
-- differ, in order, every one and no other, and are 0 after the last).
use Rattle.std.specs.Prelude.{◌≡◌, true, false, List, ℕ, ◌≤◌, ◌<◌, ℤ, length}
use Rattle.sphere.specs.Direction.{is_same_direction}
use Rattle.big_endian.specs.Bytes.{byte_at}
use Rattle.polygon.specs.Vertices.{vertices_count, vertex_at}
use Rattle.fields.specs.Fields.{grid_of, has_second_point}
use Rattle.sheet.specs.Sheet.{zone_of, charset_of, name_of, known_of, vertices_of, second_of}
use Rattle.compare.specs.declared.differences.Field.{Field}
use Rattle.compare.specs.declared.differences.Field.TheVariants.{ZoneNumber, CharacterSet, Name, KnownPoint, Vertices}
use Rattle.compare.specs.declared.differences.Field.TheVariants.{WhichGrid, SecondPoint}
use Rattle.compare.specs.declared.ring.Placed.{Placed}
use Rattle.compare.specs.declared.ring.Placed.TheVariants.{Apart, Forward, Backward}
use Rattle.compare.specs.Ring.{forward_at, backward_at, Meets, SameRing, placed_of, way_of}
use Rattle.compare.specs.Differences.{field_number}
use Rattle.compare.specs.Comparison.{comparison_of}

-- ---- the way, of any two lists

pub record WayTells (ls rs : List ℤ) : Type 0 where
  pub same→way : SameRing ls rs → way_of (placed_of ls rs) ≡ 0 → ⊥
  pub way→same : (way_of (placed_of ls rs) ≡ 0 → ⊥) → SameRing ls rs

abbrev pub SameRingTold : Type 0
SameRingTold = (ls rs : List ℤ) → WayTells ls rs

-- ---- the place, of any two lists

-- The lowest vertex of the right ring from which all meet.
pub record LowestMeeting (ls rs : List ℤ) (at : ℕ → ℕ → ℕ) (k : ℕ) : Type 0 where
  pub below : k < vertices_count ls
  pub meets : Meets ls rs (at k)
  pub before : (j : ℕ) → j < k → Meets ls rs (at j) → ⊥

-- Both rings have a vertex i, in one direction.
pub record Agree (ls rs : List ℤ) (i : ℕ) : Type 0 where
  pub in_left : i < vertices_count ls
  pub in_right : i < vertices_count rs
  pub same : is_same_direction (vertex_at ls i) (vertex_at rs i) ≡ true

pub record FirstDifference (ls rs : List ℤ) (i : ℕ) : Type 0 where
  pub here : Agree ls rs i → ⊥
  pub before : (j : ℕ) → j < i → Agree ls rs j

abbrev pub PlacedLowest : List ℤ → List ℤ → Placed → Type 0
PlacedLowest ls rs (Forward k) = LowestMeeting ls rs (forward_at (vertices_count ls)) k
PlacedLowest ls rs (Backward k) =
    LowestMeeting ls rs (backward_at (vertices_count ls)) k
    × ((j : ℕ) → j < vertices_count ls → Meets ls rs (forward_at (vertices_count ls) j) → ⊥)
PlacedLowest ls rs (Apart i) = FirstDifference ls rs i

abbrev pub PlaceLowest : Type 0
PlaceLowest = (ls rs : List ℤ) → PlacedLowest ls rs (placed_of ls rs)

-- ---- the fields, of two sheets that are accepted

-- A second point in both, in one direction; or in neither.
pub data SameSecond (b c : List ℕ) : Type 0 where
  both : has_second_point b ≡ true → has_second_point c ≡ true → is_same_direction (second_of b) (second_of c) ≡ true → SameSecond b c
  neither : has_second_point b ≡ false → has_second_point c ≡ false → SameSecond b c

-- The field is the same in both sheets.
abbrev pub Same : List ℕ → List ℕ → Field → Type 0
Same b c ZoneNumber = zone_of b ≡ zone_of c
Same b c CharacterSet = charset_of b ≡ charset_of c
Same b c Name = name_of b ≡ name_of c
Same b c KnownPoint = is_same_direction (known_of b) (known_of c) ≡ true
Same b c Vertices = SameRing (vertices_of b) (vertices_of c)
Same b c WhichGrid = grid_of b ≡ grid_of c
Same b c SecondPoint = SameSecond b c

-- Among the first `count` bytes.
pub record Listed (fields : List ℕ) (count : ℕ) (number : ℕ) : Type 0 where
  pub at : ℕ
  pub below : at < count
  pub stands : byte_at fields at ≡ number

-- A byte names a field, and one that differs.
pub record Names (b c : List ℕ) (number : ℕ) : Type 0 where
  pub field : Field
  pub named : number ≡ field_number field
  pub other : Same b c field → ⊥

pub record Exact (b c fields : List ℕ) (count : ℕ) : Type 0 where
  pub seven : length fields ≡ 7
  pub every_one : (f : Field) → (Same b c f → ⊥) → Listed fields count (field_number f)
  pub no_other : (i : ℕ) → i < count → Names b c (byte_at fields i)
  pub rising : (i j : ℕ) → i < j → j < count → byte_at fields i < byte_at fields j
  pub rest : (i : ℕ) → count ≤ i → byte_at fields i ≡ 0

abbrev pub FieldsExact : Type 0
FieldsExact = (b c : List ℕ) → (comparison_of b c).number ≡ 0 →
    Exact b c (comparison_of b c).fields (comparison_of b c).count

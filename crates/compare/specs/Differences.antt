-- Document 02, P11: the fields in which two sheets differ. Defined, in order: field_number, all_fields;
-- is_same_second, differs (one field of the sheets b and c), differing, differences_of (every one that differs, in order),
-- filled (seven bytes, 0 after the last); Accepted, noted, pushed (how the code makes them). Of two accepted sheets; what each
-- field being the same means in words of its own, and that just those that differ are told: Claims.FieldsExact.
use Rattle.std.specs.Prelude.{Bool, not, ◌&&◌, cond, List, [], ◌∷◌, ◌++◌, ℕ, ◌+◌, ◌-◌, ◌≡◌, eqb, length, set, replicate, bytes_eq}
use Rattle.sphere.specs.declared.point.Point.{Point}
use Rattle.sphere.specs.Point.{is_null}
use Rattle.sphere.specs.Direction.{is_same_direction}
use Rattle.fields.specs.Fields.{grid_of, tag_of}
use Rattle.sheet.specs.Sheet.{zone_of, charset_of, name_of, known_of, vertices_of, second_of, sheet_check, read_after}
use Rattle.sheet.specs.declared.read.Sheet.{Sheet}
use Rattle.compare.specs.declared.differences.Field.{Field}
use Rattle.compare.specs.declared.differences.Field.TheVariants.{ZoneNumber, CharacterSet, Name, KnownPoint, Vertices, WhichGrid}
use Rattle.compare.specs.declared.differences.Field.TheVariants.{SecondPoint}
use Rattle.std.specs.declared.result.Result.TheVariants.{Ok}
use Rattle.compare.specs.declared.differences.Differences.{Differences}
use Rattle.compare.specs.Ring.{placed_of, way_of}

-- Fields are named 1 to 5, as their tags, the grid 6, the second point 7.
abbrev pub field_number : Field → ℕ
field_number ZoneNumber = 1
field_number CharacterSet = 2
field_number Name = 3
field_number KnownPoint = 4
field_number Vertices = 5
field_number WhichGrid = 6
field_number SecondPoint = 7

abbrev pub all_fields : List Field
all_fields =
    ZoneNumber ∷ CharacterSet ∷ Name ∷ KnownPoint ∷ Vertices ∷ WhichGrid ∷ SecondPoint ∷ []

-- ---- one field

-- Two second points, each all zero where its sheet has none: both missing is no difference, one is.
unfoldable pub is_same_second : Point → Point → Bool
is_same_second Y Z = cond (is_null Y) (is_null Z) (not (is_null Z) && is_same_direction Y Z)

-- Points are compared by direction, whatever their grids, the vertices as a ring, and the grids by their tags.
unfoldable pub differs : List ℕ → List ℕ → Field → Bool
differs b c ZoneNumber = not (eqb (zone_of b) (zone_of c))
differs b c CharacterSet = not (eqb (charset_of b) (charset_of c))
differs b c Name = not (bytes_eq (name_of b) (name_of c))
differs b c KnownPoint = not (is_same_direction (known_of b) (known_of c))
differs b c Vertices = eqb (way_of (placed_of (vertices_of b) (vertices_of c))) 0
differs b c WhichGrid = not (eqb (tag_of (grid_of b)) (tag_of (grid_of c)))
differs b c SecondPoint = not (is_same_second (second_of b) (second_of c))

-- ---- all of them

unfoldable pub differing : (Field → Bool) → List Field → List ℕ
differing test [] = []
differing test (f ∷ fs) = cond (test f) (field_number f ∷ differing test fs) (differing test fs)

unfoldable pub differences_of : List ℕ → List ℕ → List ℕ
differences_of b c = differing (differs b c) all_fields

abbrev pub filled : List ℕ → List ℕ
filled numbers = numbers ++ replicate (7 - length numbers) 0

-- ---- how the code makes them, one by one

-- What reading handed back of an accepted sheet.
pub record Accepted (b : List ℕ) (s : Sheet) : Type 0 where
  pub checked : sheet_check b ≡ Ok tt
  pub parts : s ≡ read_after (Ok tt) b

abbrev pub noted : List ℕ → Differences
noted numbers = record { numbers = filled numbers; count = length numbers }

unfoldable pub pushed : Differences → ℕ → Bool → Differences
pushed d number other = cond other (record { numbers = set d.numbers d.count number; count = d.count + 1 }) d

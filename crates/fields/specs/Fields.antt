-- Document 01, 'The zone sheet', first layer: the fields, by bytes alone. Refusals 20 to 24, each with its place.
-- Defined, in order: is_allowed, field_end, field_check (one field: 20, 21, 22, 20); charset_start, name_start,
-- known_start, vertices_start, grid_at, grid_of, tag_of (document 02, P8), second_start, has_second_point, sheet_end; zone_check,
-- is_charset, charset_check, is_name_length, name_check, known_check, vertices_check, five_fields; second_field (document 02,
-- P4: tag 6, which may be missing), sheet_fields (20 to 23), rest_check (24), fields_check. A field begins at its tag.
-- What the fields mean is in crate sheet, specs/Sheet.
use Rattle.std.specs.Prelude.{Bool, not, ◌&&◌, cond, List, ℕ, ◌+◌, ◌%◌, eqb, leb, ltb, length}
use Rattle.sphere.specs.declared.point.Grid.{Grid}
use Rattle.sphere.specs.declared.point.Grid.TheVariants.{Coarse, Fine}
use Rattle.big_endian.specs.Bytes.{byte_at, short_at}
use Rattle.std.specs.declared.result.Result.TheVariants.{Ok}
use Rattle.answer.specs.declared.Reason.TheVariants.{Charset, FieldCut, FieldLength, FieldTag, TrailingBytes}
use Rattle.answer.specs.Refusal.{Check}
use Rattle.answer.specs.Chain.{◌then◌, fails_here}

-- ---- one field: a tag, two bytes of length, the body

-- A length from `least` to `most`, in whole steps.
unfoldable pub is_allowed : ℕ → ℕ → ℕ → ℕ → Bool
is_allowed least most step n = leb least n && (leb n most && eqb (n % step) 0)

-- The first byte after the field that begins at `at`.
unfoldable pub field_end : List ℕ → ℕ → ℕ
field_end b at = at + 3 + short_at b (at + 1)

-- The field with the given tag and lengths, at `at`: its three head bytes, its tag, its length, its body.
unfoldable pub field_check : ℕ → (ℕ → Bool) → List ℕ → ℕ → Check
field_check tag isLength b at =
    fails_here FieldCut at (ltb (length b) (at + 3))
    then fails_here FieldTag at (not (eqb (byte_at b at) tag))
    then fails_here FieldLength at (not (isLength (short_at b (at + 1))))
    then fails_here FieldCut at (ltb (length b) (field_end b at))

-- ---- where the fields begin. Those with tags 1, 2, 4 and 6 have one length.

abbrev pub charset_start : ℕ
charset_start = 7

abbrev pub name_start : ℕ
name_start = 11

abbrev pub known_start : List ℕ → ℕ
known_start b = field_end b name_start

abbrev pub vertices_start : List ℕ → ℕ
vertices_start b = known_start b + 15

-- The grid (document 02, P8): a byte 7 in place of the 5 that starts the vertices' field says that the points of this
-- sheet, those of tags 4 and 6 too, are on the fine one. (A byte past the end of the list reads as 0.)
unfoldable pub grid_at : List ℕ → ℕ → Grid
grid_at b at = cond (eqb (byte_at b at) 7) Fine Coarse

abbrev pub grid_of : List ℕ → Grid
grid_of b = grid_at b (vertices_start b)

abbrev pub tag_of : Grid → ℕ
tag_of Coarse = 5
tag_of Fine = 7

-- Where the second point's field begins, if there is one: a byte 6 after the vertices starts it.
abbrev pub second_start : List ℕ → ℕ
second_start b = field_end b (vertices_start b)

unfoldable pub has_second_point : List ℕ → Bool
has_second_point b = eqb (byte_at b (second_start b)) 6

abbrev pub sheet_end : List ℕ → ℕ
sheet_end b = cond (has_second_point b) (second_start b + 15) (second_start b)

-- ---- the five fields that every sheet has, in order

abbrev pub zone_check : List ℕ → Check
zone_check b = field_check 1 (is_allowed 4 4 1) b 0

-- 1 UTF-8, 2 ISO 8859-7, 3 windows-1253.
unfoldable pub is_charset : ℕ → Bool
is_charset n = leb 1 n && leb n 3

unfoldable pub charset_check : List ℕ → Check
charset_check b =
    field_check 2 (is_allowed 1 1 1) b charset_start
    then fails_here Charset charset_start (not (is_charset (byte_at b (charset_start + 3))))

abbrev pub is_name_length : ℕ → Bool
is_name_length = is_allowed 1 120 1

abbrev pub name_check : List ℕ → Check
name_check b = field_check 3 is_name_length b name_start

abbrev pub known_check : List ℕ → Check
known_check b = field_check 4 (is_allowed 12 12 1) b (known_start b)

abbrev pub vertices_check : List ℕ → Check
vertices_check b = field_check (tag_of (grid_of b)) (is_allowed 36 49152 12) b (vertices_start b)

unfoldable pub five_fields : List ℕ → Check
five_fields b = zone_check b then charset_check b then name_check b then known_check b then vertices_check b

-- ---- and the sixth

unfoldable pub second_field : List ℕ → Check
second_field b = cond (has_second_point b) (field_check 6 (is_allowed 12 12 1) b (second_start b)) (Ok tt)

-- The fields alone: bytes may follow.
unfoldable pub sheet_fields : List ℕ → Check
sheet_fields b = five_fields b then second_field b

unfoldable pub rest_check : List ℕ → Check
rest_check b = fails_here TrailingBytes (sheet_end b) (ltb (sheet_end b) (length b))

unfoldable pub fields_check : List ℕ → Check
fields_check b = sheet_fields b then rest_check b

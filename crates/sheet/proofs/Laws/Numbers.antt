-- The numbers of the refusals, by any property of them, and that they are above a given one, so that a refusal is told
-- from success and from 10. Defined: Above. Proved, in order: field_numbered, fields_numbered, sheet_numbered
-- (reading), above_sheet (above 10), above_write (writing: above 9). Such laws of any check are polygon's.
use mathlib.Core.Path.{◌≡◌}
use mathlib.Core.Bool.{Bool, not}
use mathlib.Core.List.{List, [], ◌∷◌}
use Prim.Native.Nat.{ℕ, ◌+◌, ◌*◌, ◌<◌}
use native.Mathlib.Omega.{arith}
use lib.Dec.{eqb, ltb, lit<}
use lib.IntN.{ℤ}
use lib.ListN.{length}
use Rattle.sphere.specs.declared.point.Grid.{Grid}
use Rattle.sphere.specs.declared.point.GridPoint.{GridPoint}
use Rattle.sphere.specs.Point.{limit_of}
use Rattle.big_endian.specs.Bytes.{byte_at, short_at}
use Rattle.big_endian.proofs.Laws.Rows.{ints_at-length}
use Rattle.polygon.specs.Checks.{list_check}
use Rattle.polygon.specs.Grids.{is_mixed, grid_check, grid_of_second}
use Rattle.fields.specs.Fields.{is_allowed, is_charset, field_end, field_check, known_start, vertices_start, grid_of, tag_of}
use Rattle.fields.specs.Fields.{second_start, has_second_point, sheet_end, charset_check, five_fields, second_field, sheet_fields}
use Rattle.fields.specs.Fields.{rest_check, fields_check}
use Rattle.std.specs.declared.result.Result.TheVariants.{Ok}
use Rattle.answer.specs.declared.Reason.TheVariants.{Charset, FieldCut, FieldLength, FieldTag, OtherGrid, SheetRoom, TrailingBytes}
use Rattle.answer.proofs.Laws.Numbers.{Numbered, passed_numbered, then_numbered, ◌both◌, here_numbered, if_numbered}
use Rattle.answer.proofs.Laws.Numbers.{where_numbered}
use Rattle.polygon.proofs.Laws.Numbers.{list_numbered, second_numbered, accept_numbered}
use Rattle.polygon.proofs.Laws.Numbers.{optional_numbered}
use Rattle.sheet.specs.Sheet.{known_of, vertex_count_of, vertices_of, second_of, plain_check, sheet_second_check}
use Rattle.sheet.specs.Sheet.{sheet_check}
use Rattle.sheet.specs.Write.{bytes_needed, input_check, write_check}
use Rattle.fields.proofs.Laws.Fields.{passed_spans}
use Rattle.sheet.proofs.Laws.Reads.{fields_five}
use Rattle.sheet.proofs.Laws.Accepted.{Whole, whole_passed}

abbrev pub Above : ℕ → ℕ → Type 0
Above m number = m < number

-- ---- the fields: 20 to 24
module _ {Is : ℕ → Type 0} (h : (n : ℕ) → 19 < n → n < 25 → Is n) where
  field_numbered : (tag : ℕ) (isLength : ℕ → Bool) (b : List ℕ) (at : ℕ) → Numbered Is (field_check tag isLength b at)
  unfolding field_check
  field_numbered tag isLength b at =
      here_numbered FieldCut at (ltb (length b) (at + 3)) (h 20 (lit< tt) (lit< tt))
      both here_numbered FieldTag at (not (eqb (byte_at b at) tag)) (h 21 (lit< tt) (lit< tt))
      both here_numbered FieldLength at (not (isLength (short_at b (at + 1)))) (h 22 (lit< tt) (lit< tt))
      both here_numbered FieldCut at (ltb (length b) (field_end b at)) (h 20 (lit< tt) (lit< tt))

  fields_numbered : (b : List ℕ) → Numbered Is (fields_check b)
  unfolding fields_check sheet_fields five_fields charset_check second_field rest_check
  fields_numbered b =
      ((field_numbered 1 (is_allowed 4 4 1) b 0
      both (field_numbered 2 (is_allowed 1 1 1) b 7
      both here_numbered Charset 7 (not (is_charset (byte_at b 10))) (h 23 (lit< tt) (lit< tt)))
      both field_numbered 3 (is_allowed 1 120 1) b 11
      both field_numbered 4 (is_allowed 12 12 1) b (known_start b)
      both field_numbered (tag_of (grid_of b)) (is_allowed 36 49152 12) b (vertices_start b))
      both where_numbered (has_second_point b) (field_numbered 6 (is_allowed 12 12 1) b (second_start b)))
      both here_numbered TrailingBytes (sheet_end b) (ltb (sheet_end b) (length b)) (h 24 (lit< tt) (lit< tt))

-- ---- reading and writing
list_numbered_none : {Is : ℕ → Type 0} (b : List ℕ) → fields_check b ≡ Ok tt → Numbered Is (list_check (vertices_of b))
list_numbered_none b e =
    let s = passed_spans b (fields_five b e) in
    let n = ints_at-length b (vertices_start b + 3) (vertex_count_of b * 3) in
    let l : Whole (vertices_of b) = record { threes = omega arith; least = omega arith; most = omega arith } in
    rw (whole_passed (vertices_of b) l) passed_numbered

-- 11 to 16, 19 to 24.
pub sheet_numbered : (Is : ℕ → Type 0) → ((n : ℕ) → 18 < n → n < 25 → Is n) → ((n : ℕ) → 10 < n → n < 17 → Is n) →
    (b : List ℕ) → Numbered Is (sheet_check b)
unfolding sheet_check plain_check sheet_second_check
sheet_numbered Is high low b =
    let limit = limit_of (grid_of b) in
    let vs = vertices_of b in
    then_numbered (fields_numbered (λ n l m. high n (omega (arith, l)) m) b)
    (λ e. accept_numbered Is limit vs (list_numbered_none b e) low (known_of b))
    both where_numbered (has_second_point b)
    (second_numbered Is limit vs (known_of b) (second_of b) (high 19 (lit< tt) (lit< tt)))

pub above_sheet : (b : List ℕ) → Numbered (Above 10) (sheet_check b)
above_sheet = sheet_numbered (Above 10) (λ n l m. omega (arith, l)) (λ n l m. l)

pub above_write :
    (charset : ℕ) (name : List ℕ) (known : GridPoint) (g : Grid) (vertices : List ℤ) (second : GridPoint) (room : ℕ) →
    Numbered (Above 9) (write_check charset name known g vertices second room)
unfolding write_check input_check grid_check
above_write charset name known g vertices second room =
    let n = bytes_needed name vertices second.point in
    let list = list_numbered (Above 9) (limit_of g) vertices (lit< tt) in
    (if_numbered Charset (not (is_charset charset)) (lit< tt)
    both if_numbered FieldLength (not (is_allowed 1 120 1 (length name))) (lit< tt)
    both (list both if_numbered OtherGrid (is_mixed g (known.grid ∷ grid_of_second g second ∷ [])) (lit< tt))
    both optional_numbered (Above 9) (limit_of g) vertices list (λ k l m. omega (arith, l)) known.point (lit< tt)
    second.point)
    both here_numbered SheetRoom n (ltb room n) (lit< tt)

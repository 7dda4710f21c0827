-- Document 01, 'The zone sheet': the bytes of a sheet, and what writing one does on every input.
-- Defined, in order: field_bytes, second_bytes, second_size, sheet_bytes, bytes_needed; input_check (23, 22, 10, 28, 11 to
-- 16, 19), write_check (25 too), write_of, written_to; Storable (for the code alone). A second point of all zero is none (document 02, P4), and
-- has no grid (P8).
use Rattle.std.specs.Prelude.{not, cond, List, [], ◌∷◌, ◌++◌, ℕ, ◌+◌, ◌*◌, ◌≤◌, ◌<◌, ltb, ℤ, length}
use Rattle.sphere.specs.declared.point.Point.{Point}
use Rattle.sphere.specs.declared.point.Grid.{Grid}
use Rattle.sphere.specs.declared.point.GridPoint.{GridPoint}
use Rattle.sphere.specs.Point.{limit_of, Within, is_null}
use Rattle.big_endian.specs.Bytes.{short_bytes, word_bytes, ints_bytes, point_bytes}
use Rattle.std.specs.declared.result.Result.TheVariants.{Ok}
use Rattle.answer.specs.declared.Reason.TheVariants.{Charset, FieldLength, SheetRoom}
use Rattle.answer.specs.Refusal.{Answer}
use Rattle.answer.specs.declared.Verdict.TheVariants.{Done}
use Rattle.answer.specs.Refusal.{Check}
use Rattle.answer.specs.Answer.{answer_after}
use Rattle.answer.specs.Chain.{◌then◌, fails_here, fails_if}
use Rattle.polygon.specs.Pair.{optional_check}
use Rattle.polygon.specs.Grids.{is_mixed, grid_check, grid_of_second}
use Rattle.answer.specs.Buffer.{buffer_after}
use Rattle.fields.specs.Fields.{tag_of, is_charset, is_name_length}

-- A field: its tag, its length, its body.
unfoldable pub field_bytes : ℕ → List ℕ → List ℕ
field_bytes tag body = tag ∷ (short_bytes (length body) ++ body)

-- The field of a second point, or no bytes where there is none, and how many they are.
unfoldable pub second_bytes : Point → List ℕ
second_bytes second = cond (is_null second) [] (field_bytes 6 (point_bytes second))

unfoldable pub second_size : Point → ℕ
second_size second = cond (is_null second) 0 15

-- A sheet: zone number, character set, name, known point, vertices on the grid g, and the second point if there is one.
unfoldable pub sheet_bytes : ℕ → ℕ → List ℕ → Point → Grid → List ℤ → Point → List ℕ
sheet_bytes zone charset name known g vertices second =
    field_bytes 1 (word_bytes zone)
    ++ (field_bytes 2 (charset ∷ [])
    ++ (field_bytes 3 name
    ++ (field_bytes 4 (point_bytes known) ++ (field_bytes (tag_of g) (ints_bytes vertices) ++ second_bytes second))))

-- The bytes that it takes: 32 beside the name, the vertices and the second point.
abbrev pub bytes_needed : List ℕ → List ℤ → Point → ℕ
bytes_needed name vertices second = 32 + length name + length vertices * 4 + second_size second

-- ---- writing into `room` bytes

unfoldable pub input_check : ℕ → List ℕ → GridPoint → Grid → List ℤ → GridPoint → Check
input_check charset name known g vertices second =
    fails_if Charset (not (is_charset charset))
    then fails_if FieldLength (not (is_name_length (length name)))
    then grid_check vertices (is_mixed g (known.grid ∷ grid_of_second g second ∷ []))
    then optional_check (limit_of g) vertices known.point second.point

unfoldable pub write_check : ℕ → List ℕ → GridPoint → Grid → List ℤ → GridPoint → ℕ → Check
write_check charset name known g vertices second room =
    input_check charset name known g vertices second
    then fails_here SheetRoom (bytes_needed name vertices second.point) (ltb room (bytes_needed name vertices second.point))

unfoldable pub write_of : ℕ → List ℕ → GridPoint → Grid → List ℤ → GridPoint → ℕ → Answer
write_of charset name known g vertices second room =
    answer_after (write_check charset name known g vertices second room)
    (Ok (Done (bytes_needed name vertices second.point)))

-- The buffer after the call.
unfoldable pub written_to : ℕ → ℕ → List ℕ → GridPoint → Grid → List ℤ → GridPoint → List ℕ → List ℕ
written_to zone charset name known g vertices second buffer =
    buffer_after (write_check charset name known g vertices second (length buffer))
    (sheet_bytes zone charset name known.point g vertices second.point) buffer

-- ---- for the code alone: readers need none of it

-- What the code that stores a sheet wants of its numbers, in `room` bytes. Every input that passes the checks has it.
pub record Storable (charset : ℕ) (name : List ℕ) (known : Point) (vertices : List ℤ) (second : Point) (room : ℕ)
    : Type 0 where
  pub charset_small : charset < 256
  pub name_short : length name ≤ 120
  pub known_small : Within 2147483647 known
  pub row_short : length vertices ≤ 12288
  pub second_small : Within 2147483647 second
  pub enough : bytes_needed name vertices second ≤ room

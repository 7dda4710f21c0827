-- A sheet read from C, and its vertices. Defined, in order: point_numbers; row_of, fill_check (the sheet's refusal, then
-- 27), fill_of (the answer), filled_to (the buffer after the call). What reading hands back is sheet/specs/Sheet's readOf.
-- Claims: specs/Claims.
use Rattle.std.specs.Prelude.{List, ℕ, ◌+◌, ◌*◌, ltb, length, take, drop}
use Rattle.sphere.specs.declared.point.Point.{Point}
use Rattle.angles.specs.declared.point.GridNumbers.{GridNumbers}
use Rattle.std.specs.declared.result.Result.TheVariants.{Ok}
use Rattle.answer.specs.declared.Reason.TheVariants.{ResultRoom}
use Rattle.answer.specs.Refusal.{Answer}
use Rattle.answer.specs.declared.Verdict.TheVariants.{Done}
use Rattle.answer.specs.Refusal.{Check}
use Rattle.answer.specs.Answer.{answer_after}
use Rattle.answer.specs.Buffer.{buffer_after}
use Rattle.answer.specs.Chain.{◌then◌, fails_here}
use Rattle.fields.specs.Fields.{vertices_start}
use Rattle.sheet.specs.Sheet.{vertex_count_of, sheet_check}

-- The three numbers of a point, as C gets them.
abbrev pub point_numbers : Point → GridNumbers
point_numbers p = record { x = p.x; y = p.y; z = p.z }

-- ---- the vertices, twelve bytes each, into `room` bytes

-- The vertices as they stand in the sheet.
unfoldable pub row_of : List ℕ → List ℕ
row_of b = take (vertex_count_of b * 12) (drop (vertices_start b + 3) b)

unfoldable pub fill_check : List ℕ → ℕ → Check
fill_check b room = sheet_check b then fails_here ResultRoom (vertex_count_of b * 12) (ltb room (vertex_count_of b * 12))

abbrev pub fill_of : List ℕ → ℕ → Answer
fill_of b room = answer_after (fill_check b room) (Ok (Done 0))

unfoldable pub filled_to : List ℕ → List ℕ → List ℕ
filled_to b buffer = buffer_after (fill_check b (length buffer)) (row_of b) buffer

-- Document 02, P4: choosing a second point for a sheet, from a list of candidates of twelve bytes each. They are on the
-- sheet's grid, and its own second point is not looked at. Defined, in order: candidate_count, candidates_of, whole_check
-- (10), sheet_choose_of.
use Rattle.std.specs.Prelude.{not, List, ℕ, ◌*◌, ◌/◌, ◌%◌, eqb, ℤ, length}
use Rattle.sphere.specs.Point.{limit_of}
use Rattle.big_endian.specs.Bytes.{ints_at}
use Rattle.answer.specs.declared.Reason.TheVariants.{VertexList}
use Rattle.answer.specs.Refusal.{Answer}
use Rattle.answer.specs.Refusal.{Check}
use Rattle.answer.specs.Answer.{answer_after}
use Rattle.answer.specs.Chain.{◌then◌, fails_if}
use Rattle.polygon.specs.Pair.{choose_of}
use Rattle.fields.specs.Fields.{grid_of, fields_check}
use Rattle.sheet.specs.Sheet.{known_of, vertices_of}

abbrev pub candidate_count : List ℕ → ℕ
candidate_count candidates = length candidates / 12

-- The candidates as a list of numbers, three for each.
abbrev pub candidates_of : List ℕ → List ℤ
candidates_of candidates = ints_at candidates 0 (candidate_count candidates * 3)

-- Candidates that are not whole are no list of whole threes.
unfoldable pub whole_check : List ℕ → Check
whole_check candidates = fails_if VertexList (not (eqb (length candidates % 12) 0))

-- 10, then the sheet's fields (20 to 24), then what choosing from the list answers: 11 to 16, 19, or the candidate.
unfoldable pub sheet_choose_of : List ℕ → List ℕ → Answer
sheet_choose_of b candidates =
    answer_after (whole_check candidates then fields_check b)
    (choose_of (limit_of (grid_of b)) (vertices_of b) (known_of b) (candidates_of candidates))

-- Judging by a sheet's bytes: one query, and a feed of them (document 02, P1). A bad sheet gives that sheet's refusal,
-- and a query opposite the known point is judged from the second point, if the sheet has one (document 02, P4).
-- Defined, in order: sheet_answer_of, sheet_looked_of; sheet_feed_check (26 and 27 come before 20), sheet_feed_of,
-- sheet_results_after; boxed_of, RoomIn (of the code's scratch space). Document 01, 'The zone sheet', on the importer's calls.
-- Queries are on their sheet's grid (document 02, P8).
use Rattle.std.specs.Prelude.{◌≡◌, List, ℕ, ◌≤◌, ℤ, length}
use Rattle.sphere.specs.declared.point.Point.{Point}
use Rattle.sphere.specs.Point.{limit_of}
use Rattle.std.specs.declared.result.Result.TheVariants.{Ok}
use Rattle.answer.specs.Refusal.{Answer}
use Rattle.answer.specs.declared.Verdict.TheVariants.{Done}
use Rattle.answer.specs.Refusal.{Check}
use Rattle.answer.specs.Answer.{answer_after}
use Rattle.answer.specs.Chain.{◌then◌}
use Rattle.polygon.specs.Verdict.{answer_of}
use Rattle.polygon.specs.Pair.{judge_from}
use Rattle.judging.specs.Accept.{boxed_after}
use Rattle.judging.specs.Judge.{looked_after, looked_of}
use Rattle.answer.specs.Buffer.{buffer_after}
use Rattle.feed.specs.Feed.{size_check, feed_bytes}
use Rattle.fields.specs.Fields.{grid_of}
use Rattle.sheet.specs.Sheet.{known_of, vertices_of, second_of, plain_check, sheet_check}
use Rattle.sheet.specs.Open.{room_for, BoxesFor}

unfoldable pub sheet_answer_of : List ℕ → Point → Answer
sheet_answer_of b P =
    answer_after (sheet_check b) (answer_of (limit_of (grid_of b)) (vertices_of b) (judge_from (known_of b) (second_of b) P) P)

-- How many edges were looked at for it (document 02, P2).
unfoldable pub sheet_looked_of : List ℕ → Point → ℕ
sheet_looked_of b P =
    looked_after (sheet_check b) (looked_of (limit_of (grid_of b)) (vertices_of b) (judge_from (known_of b) (second_of b) P) P)

-- All that is checked once for a feed, with `room` bytes for its results.
unfoldable pub sheet_feed_check : List ℕ → List ℕ → ℕ → Check
sheet_feed_check b queries room = size_check queries room then sheet_check b

unfoldable pub sheet_feed_of : List ℕ → List ℕ → ℕ → Answer
sheet_feed_of b queries room = answer_after (sheet_feed_check b queries room) (Ok (Done 0))

-- The result buffer after the call: the results in front, or all as it was.
unfoldable pub sheet_results_after : List ℕ → List ℕ → List ℕ → List ℕ
sheet_results_after b queries buffer =
    buffer_after (sheet_feed_check b queries (length buffer))
    (feed_bytes (limit_of (grid_of b)) (vertices_of b) (known_of b) (second_of b) queries) buffer

-- ---- scratch space of the code: the boxes of a sheet, as soon as its polygon is accepted

abbrev pub boxed_of : List ℕ → List ℤ → List ℤ
boxed_of b boxes = boxed_after (plain_check b) (vertices_of b) boxes

-- So many numbers, and so many for boxes, are enough for a sheet of these bytes.
pub record RoomIn (numbers boxes : ℕ) (b : List ℕ) : Type 0 where
  pub numbers_few : numbers ≤ 12288
  pub boxes_few : boxes ≤ 768
  pub enough : room_for b ≤ numbers
  pub boxed : (l : List ℤ) → length l ≡ boxes → BoxesFor b l

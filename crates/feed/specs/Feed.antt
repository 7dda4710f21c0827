-- Document 02, P1: a feed (any number of queries to one polygon, in one call).
-- Defined, in order: query_count, query_at, room_needed, result_bytes; size_check (26, 27), feed_check (26, 27, 10, 28, 11 to
-- 16), feed_of (the answer); result_of (one query's result), resultsBytes, feed_bytes (all of them), results_after (the
-- result buffer after the call). Queries and results are numbered from 0. A result is by the known point or, where the
-- query is opposite that, by the second one (document 02, P4); results_after is of a feed that has none.
use Rattle.std.specs.Prelude.{not, List, [], ◌∷◌, ◌++◌, ℕ, ◌*◌, ◌/◌, ◌%◌, eqb, ltb, ℤ, length}
use Rattle.sphere.specs.declared.point.Point.{Point}
use Rattle.sphere.specs.declared.point.Grid.{Grid}
use Rattle.sphere.specs.declared.point.GridPoint.{GridPoint}
use Rattle.sphere.specs.Point.{limit_of}
use Rattle.big_endian.specs.Bytes.{point_at, word_bytes}
unfoldable pub use Rattle.big_endian.specs.Bytes.{rows_of as resultsBytes}
use Rattle.std.specs.declared.result.Result.TheVariants.{Ok}
use Rattle.answer.specs.declared.Reason.TheVariants.{CutRecord, ResultRoom}
use Rattle.answer.specs.Refusal.{Answer}
use Rattle.answer.specs.declared.Verdict.TheVariants.{Done}
use Rattle.answer.specs.Refusal.{Check}
use Rattle.answer.specs.Answer.{number_of, place_of, count_of, answer_after}
use Rattle.answer.specs.Chain.{◌then◌, fails_here, fails_if}
use Rattle.polygon.specs.Checks.{accept_check}
use Rattle.polygon.specs.Verdict.{answer_of}
use Rattle.polygon.specs.Pair.{no_second, judge_from}
use Rattle.polygon.specs.Grids.{is_mixed, grid_check}
use Rattle.answer.specs.Buffer.{buffer_after}

-- ---- twelve bytes a query, twelve bytes a result

abbrev pub query_count : List ℕ → ℕ
query_count queries = length queries / 12

abbrev pub query_at : List ℕ → ℕ → Point
query_at queries i = point_at queries (i * 12)

abbrev pub room_needed : List ℕ → ℕ
room_needed queries = query_count queries * 12

-- Number, place, count, in 32 bits each. That none of them loses any is part of specs/Claims.
unfoldable pub result_bytes : Answer → List ℕ
result_bytes a = word_bytes (number_of a) ++ (word_bytes (place_of a) ++ word_bytes (count_of a))

-- ---- what is checked once, with `room` bytes for the results

unfoldable pub size_check : List ℕ → ℕ → Check
size_check queries room =
    fails_if CutRecord (not (eqb (length queries % 12) 0))
    then fails_here ResultRoom (room_needed queries) (ltb room (room_needed queries))

-- The queries have one grid, h (document 02, P8).
unfoldable pub feed_check : Grid → List ℤ → GridPoint → Grid → List ℕ → ℕ → Check
feed_check g vs X h queries room =
    size_check queries room
    then grid_check vs (is_mixed g (X.grid ∷ h ∷ []))
    then accept_check (limit_of g) vs X.point

-- The feed's own answer: the first refusal, or else success.
unfoldable pub feed_of : Grid → List ℤ → GridPoint → Grid → List ℕ → ℕ → Answer
feed_of g vs X h queries room = answer_after (feed_check g vs X h queries room) (Ok (Done 0))

-- ---- the results

-- The result of query i: what the single call answers, from the point X or the second point Y.
abbrev pub result_of : ℕ → List ℤ → Point → Point → List ℕ → ℕ → List ℕ
result_of limit vs X Y queries i =
    result_bytes (answer_of limit vs (judge_from X Y (query_at queries i)) (query_at queries i))

-- All of them, in order.
unfoldable pub feed_bytes : ℕ → List ℤ → Point → Point → List ℕ → List ℕ
feed_bytes limit vs X Y queries = resultsBytes (result_of limit vs X Y queries) (query_count queries)

-- The result buffer after the call.
unfoldable pub results_after : Grid → List ℤ → GridPoint → Grid → List ℕ → List ℕ → List ℕ
results_after g vs X h queries buffer =
    buffer_after (feed_check g vs X h queries (length buffer))
    (feed_bytes (limit_of g) vs X.point no_second queries) buffer

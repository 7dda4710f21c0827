-- The promised theorems of judging by a sheet, as statements. Their proofs are in proofs/Claims. Stated, in order:
-- SheetAnswersAsList (judging by a sheet is judging by the list and the points in it, so that polygon's claims hold of
-- it), SheetFeedEqualsSingle (a feed by a sheet answers each query as the single call does), SheetRefusedWritesNothing,
-- SheetNeverEighteen (with a second point, of single calls and feeds), SheetNumbers (which numbers a query can get),
-- SheetLookedAtMost (as many edges as there are), ChosenReadsBack (a sheet with the chosen candidate behind it),
-- OctantAnswers (document 01's sheet, with its second point and on either grid).
use Rattle.std.specs.Prelude.{◌≡◌, true, false, List, ◌++◌, ℕ, ◌*◌, ◌≤◌, ◌<◌, pos, negsuc, length}
use Rattle.sphere.specs.declared.point.Point.{Point}
use Rattle.sphere.specs.Point.{limit_of}
use Rattle.big_endian.specs.Bytes.{AreBytes, word_at, point_bytes}
use Rattle.feed.specs.Feed.{query_count}
use Rattle.feed.specs.Claims.{HoldsResults}
use Rattle.std.specs.declared.result.Result.TheVariants.{Ok, Err}
use Rattle.answer.specs.declared.Reason.TheVariants.{QueryAntipodal, QueryOffGrid}
use Rattle.answer.specs.Refusal.{refused_at}
use Rattle.answer.specs.declared.Verdict.TheVariants.{Done, Inside, Outside}
use Rattle.answer.specs.Answer.{number_of}
use Rattle.polygon.specs.Vertices.{vertex_at}
use Rattle.polygon.specs.Pair.{optional_check, optional_answer_of}
use Rattle.fields.specs.Fields.{grid_of, has_second_point}
use Rattle.sheet.specs.Sheet.{zone_of, charset_of, name_of, known_of, vertex_count_of, vertices_of, read_of}
use Rattle.sheet.specs.Write.{field_bytes}
use Rattle.sheet.specs.Claims.{ReadsAs, octant_bytes, octant_pair_bytes}
use Rattle.zone.specs.Judge.{sheet_answer_of, sheet_looked_of, sheet_feed_of, sheet_results_after}
use Rattle.zone.specs.Choose.{candidates_of, sheet_choose_of}

-- With the parts of a sheet that was read: they are accepted, and the answer is theirs.
abbrev pub SheetAnswersAsList : Type 0
SheetAnswersAsList =
    (b : List ℕ) (P : Point) → number_of (read_of b).answer ≡ 0 →
    let s = read_of b in
    (optional_check (limit_of s.grid) (vertices_of b) s.known s.second ≡ Ok tt)
    × (sheet_answer_of b P ≡ optional_answer_of (limit_of s.grid) (vertices_of b) s.known s.second P)

-- After a feed that succeeds the result buffer holds what the single call by the sheet answers to each query.
abbrev pub SheetFeedEqualsSingle : Type 0
SheetFeedEqualsSingle =
    (b queries buffer : List ℕ) → sheet_feed_of b queries (length buffer) ≡ Ok (Done 0) →
    HoldsResults (sheet_answer_of b) queries buffer (sheet_results_after b queries buffer)

abbrev pub SheetRefusedWritesNothing : Type 0
SheetRefusedWritesNothing =
    (b queries buffer : List ℕ) → (sheet_feed_of b queries (length buffer) ≡ Ok (Done 0) → ⊥) →
    sheet_results_after b queries buffer ≡ buffer

-- By a sheet with a second point 18 does not occur, on any bytes: not in a single call, and in no result of a feed.
abbrev pub SheetNeverEighteen : Type 0
SheetNeverEighteen =
    (b : List ℕ) → has_second_point b ≡ true →
    ((P : Point) → number_of (sheet_answer_of b P) ≡ 18 → ⊥)
    × ((queries buffer : List ℕ) → sheet_feed_of b queries (length buffer) ≡ Ok (Done 0) → (i : ℕ) → i < query_count queries →
    word_at (sheet_results_after b queries buffer) (i * 12) ≡ 18 → ⊥)

-- A verdict, or a refusal of the sheet (11 to 16, 19 to 24) or of the query (17, 18).
pub data IsQueryNumber (n : ℕ) : Type 0 where
  verdict : 1 ≤ n → n ≤ 3 → IsQueryNumber n
  refusal : 11 ≤ n → n ≤ 24 → IsQueryNumber n

-- No query by a sheet has another number, on any bytes.
abbrev pub SheetNumbers : Type 0
SheetNumbers = (b : List ℕ) (P : Point) → IsQueryNumber (number_of (sheet_answer_of b P))

-- The edges looked at are never more than the sheet has.
abbrev pub SheetLookedAtMost : Type 0
SheetLookedAtMost = (b : List ℕ) (P : Point) → sheet_looked_of b P ≤ vertex_count_of b

-- A good sheet without a second point, with the candidate that was chosen for it behind it as tag 6, is a good sheet
-- that reads back with that point.
abbrev pub ChosenReadsBack : Type 0
ChosenReadsBack =
    (b candidates : List ℕ) (i : ℕ) → AreBytes b → number_of (read_of b).answer ≡ 0 → has_second_point b ≡ false →
    sheet_choose_of b candidates ≡ Ok (Done i) →
    let chosen = vertex_at (candidates_of candidates) i in
    ReadsAs (zone_of b) (charset_of b) (name_of b) (known_of b) (grid_of b) (vertices_of b) chosen
    (b ++ field_bytes 6 (point_bytes chosen))

-- K8, opposite the known point, is judged where the octant's sheet has a second point; and a query beyond the coarse
-- grid where its tag is 7.
abbrev farthest : Point
farthest = record { x = negsuc 0; y = negsuc 0; z = negsuc 0 }

abbrev beyond : Point
beyond = record { x = pos 1048577; y = pos 1; z = pos 1 }

abbrev pub OctantAnswers : Type 0
OctantAnswers =
    (sheet_answer_of (octant_bytes 5) farthest ≡ Err (refused_at QueryAntipodal 0))
    × (sheet_answer_of octant_pair_bytes farthest ≡ Ok (Outside 1 (negsuc 0)))
    × (sheet_answer_of (octant_bytes 5) beyond ≡ Err (refused_at QueryOffGrid 0))
    × (sheet_answer_of (octant_bytes 7) beyond ≡ Ok (Inside 0 (pos 0)))

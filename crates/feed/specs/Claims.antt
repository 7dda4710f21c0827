-- The promised theorems, as statements. Their proofs are in proofs/Claims.
-- Stated, in order: FeedEqualsSingle (a feed that succeeds answers each query as the single call does),
-- RefusedWritesNothing, FeedMixedExactly (28). They are of the definitions that the contracts of `judge_feed` and
-- judging's `judge` cite.
use Rattle.std.specs.Prelude.{◌≡◌, List, [], ◌∷◌, ℕ, ◌+◌, ◌*◌, ◌<◌, ℤ, length, take, drop}
use Rattle.sphere.specs.declared.point.Point.{Point}
use Rattle.sphere.specs.declared.point.Grid.{Grid}
use Rattle.sphere.specs.declared.point.GridPoint.{GridPoint}
use Rattle.big_endian.specs.Bytes.{word_at}
use Rattle.std.specs.declared.result.Result.TheVariants.{Ok}
use Rattle.answer.specs.Refusal.{Answer}
use Rattle.answer.specs.declared.Verdict.TheVariants.{Done}
use Rattle.answer.specs.Answer.{number_of, place_of, count_of}
use Rattle.answer.specs.Chain.{◌then◌}
use Rattle.polygon.specs.Checks.{list_check}
use Rattle.polygon.specs.Grids.{is_mixed, grid_answer_of}
use Rattle.polygon.specs.GridClaims.{Mixed, on}
use Rattle.feed.specs.Feed.{query_count, query_at, room_needed, result_bytes, size_check, feed_of, results_after}

-- The twelve bytes from `at` on are the result of the answer a, and read as three words they lose nothing of it.
pub record Encodes (b : List ℕ) (at : ℕ) (a : Answer) : Type 0 where
  pub bytes : take 12 (drop at b) ≡ result_bytes a
  pub number : word_at b at ≡ number_of a
  pub place : word_at b (at + 4) ≡ place_of a
  pub count : word_at b (at + 8) ≡ count_of a

-- The result buffer after a feed that succeeds: a single call's answers in order, and every other byte as it was.
pub record HoldsResults (single : Point → Answer) (queries buffer after : List ℕ) : Type 0 where
  pub same_length : length after ≡ length buffer
  pub each : (i : ℕ) → i < query_count queries → Encodes after (i * 12) (single (query_at queries i))
  pub rest : drop (room_needed queries) after ≡ drop (room_needed queries) buffer

abbrev pub FeedEqualsSingle : Type 0
FeedEqualsSingle =
    (g : Grid) (vs : List ℤ) (X : GridPoint) (h : Grid) (queries buffer : List ℕ) →
    feed_of g vs X h queries (length buffer) ≡ Ok (Done 0) →
    HoldsResults (λ P. grid_answer_of g vs X (on h P)) queries buffer (results_after g vs X h queries buffer)

abbrev pub RefusedWritesNothing : Type 0
RefusedWritesNothing =
    (g : Grid) (vs : List ℤ) (X : GridPoint) (h : Grid) (queries buffer : List ℕ) →
    (feed_of g vs X h queries (length buffer) ≡ Ok (Done 0) → ⊥) → results_after g vs X h queries buffer ≡ buffer

-- A feed on mixed grids is refused once, and then nothing is written: 28 exactly when 26, 27 and 10 do not hold and the
-- grids differ.
abbrev pub FeedMixedExactly : Type 0
FeedMixedExactly =
    (g : Grid) (vs : List ℤ) (X : GridPoint) (h : Grid) (queries : List ℕ) (room : ℕ) →
    Mixed (feed_of g vs X h queries room) (size_check queries room then list_check vs) (is_mixed g (X.grid ∷ h ∷ []))

-- How a feed by a sheet's bytes ends, by the outcome of its checks.
-- Proved, in order: feed_by_size, feed_by_sheet; Ends, feed_ends (its answer and its result buffer).
use mathlib.Core.Path.{◌≡◌, ap}
use mathlib.Core.List.{List}
use Prim.Native.Nat.{ℕ}
use lib.ListN.{length}
use Rattle.sphere.specs.Point.{limit_of}
use Rattle.std.specs.declared.result.Result.TheVariants.{Ok, Err}
use Rattle.answer.specs.declared.Verdict.TheVariants.{Done}
use Rattle.answer.specs.declared.Refusal.{Refusal}
use Rattle.answer.specs.Refusal.{Check}
use Rattle.answer.specs.Answer.{answer_after}
use Rattle.answer.specs.Buffer.{buffer_after}
use Rattle.feed.specs.Feed.{size_check, feed_bytes}
use Rattle.fields.specs.Fields.{grid_of}
use Rattle.sheet.specs.Sheet.{known_of, vertices_of, second_of, sheet_check}
use Rattle.zone.specs.Judge.{sheet_feed_check, sheet_feed_of, sheet_results_after}

module _ (b queries : List ℕ) where
  pub feed_by_size : (room : ℕ) {refusal : Refusal} → size_check queries room ≡ Err refusal →
      sheet_feed_check b queries room ≡ Err refusal
  unfolding sheet_feed_check
  feed_by_size room e = rw e

  pub feed_by_sheet : (room : ℕ) → size_check queries room ≡ Ok tt → sheet_feed_check b queries room ≡ sheet_check b
  unfolding sheet_feed_check
  feed_by_sheet room e = rw e

  pub record Ends (buffer : List ℕ) (check : Check) : Type 0 where
    pub answered : sheet_feed_of b queries (length buffer) ≡ answer_after check (Ok (Done 0))
    pub filled : sheet_results_after b queries buffer
        ≡ buffer_after check (feed_bytes (limit_of (grid_of b)) (vertices_of b) (known_of b) (second_of b) queries) buffer

  pub feed_ends : (buffer : List ℕ) {check : Check} → sheet_feed_check b queries (length buffer) ≡ check →
      Ends buffer check
  unfolding sheet_feed_of sheet_results_after
  feed_ends buffer e = record {
    answered = ap (λ (c : Check). answer_after c (Ok (Done 0))) e;
    filled =
        ap
        (λ (c : Check).
        buffer_after c (feed_bytes (limit_of (grid_of b)) (vertices_of b) (known_of b) (second_of b) queries) buffer)
        e;
  }

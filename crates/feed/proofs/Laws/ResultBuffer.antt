-- The result buffer of a feed whose checks passed, whatever they were. Proved, in order: feed_bytes-length,
-- buffer-front, buffer_stored (what the code stores is what the definition says), buffer_results (result i is the
-- single call's), buffer_same (of two calls that answer alike).
use mathlib.Core.Path.{◌≡◌, sym, ap, subst, ◌∙◌}
use mathlib.Core.List.{List, ◌++◌}
use Prim.Native.Nat.{ℕ, ◌+◌, ◌*◌, ◌≤◌}
use native.Mathlib.Omega.{arith}
use lib.IntN.{ℤ}
use lib.ListN.{length, drop}
use lib.Seq.{sets, sets-eq, length-sets, drop_at}
use Rattle.sphere.specs.declared.point.Point.{Point}
use Rattle.big_endian.proofs.Laws.RowBytes.{rows_length, row_at}
use Rattle.std.specs.declared.result.Result.TheVariants.{Ok}
use Rattle.answer.specs.Refusal.{Answer}
use Rattle.polygon.specs.Verdict.{answer_of}
use Rattle.polygon.specs.Pair.{judge_from, optional_check}
use Rattle.answer.specs.Buffer.{buffer_after}
use Rattle.feed.specs.Feed.{query_count, query_at, room_needed, result_of, feed_bytes}
use Rattle.feed.specs.Claims.{Encodes, HoldsResults}
use Rattle.feed.proofs.Laws.Small.{answer_small}
use Rattle.polygon.proofs.Laws.Pair.{judge_accepted}
use Rattle.feed.proofs.Laws.Results.{result_bytes-length, result_read}

module _ (limit : ℕ) (vs : List ℤ) (X Y : Point) (queries : List ℕ) where
  pub feed_bytes-length : length (feed_bytes limit vs X Y queries) ≡ room_needed queries
  unfolding feed_bytes
  feed_bytes-length =
      rows_length 12 (result_of limit vs X Y queries) (λ i. result_bytes-length _) (query_count queries)

  module _ (buffer : List ℕ) where
    -- The results in front, the rest as it was.
    buffer-front : buffer_after (Ok tt) (feed_bytes limit vs X Y queries) buffer
        ≡ feed_bytes limit vs X Y queries ++ drop (room_needed queries) buffer
    buffer-front = ap (λ (k : ℕ). feed_bytes limit vs X Y queries ++ drop k buffer) feed_bytes-length

    module _ (enough : room_needed queries ≤ length buffer) where
      pub buffer_stored : sets buffer 0 (feed_bytes limit vs X Y queries)
          ≡ buffer_after (Ok tt) (feed_bytes limit vs X Y queries) buffer
      buffer_stored =
          let bytes = feed_bytes limit vs X Y queries in
          let z : 0 + length bytes ≡ length bytes = omega arith in
          sets-eq bytes buffer 0 (omega (arith, feed_bytes-length, enough))
          ∙ ap (λ (k : ℕ). bytes ++ drop k buffer) z

      pub buffer_results : optional_check limit vs X Y ≡ Ok tt →
          HoldsResults (λ P. answer_of limit vs (judge_from X Y P) P) queries buffer
          (buffer_after (Ok tt) (feed_bytes limit vs X Y queries) buffer)
      unfolding feed_bytes
      buffer_results ok =
          let after = drop (room_needed queries) buffer in
          let result = result_of limit vs X Y queries in
          record {
            same_length = ap length (sym buffer_stored) ∙ length-sets buffer 0 (feed_bytes limit vs X Y queries);
            each = λ i h.
                rw buffer-front
                (result_read _ _ _ (answer_small limit vs _ (judge_accepted limit vs X Y ok (query_at queries i)) _)
                (row_at 12 result (λ j. result_bytes-length _) (query_count queries) i after h));
            rest = rw buffer-front
                (drop_at (feed_bytes limit vs X Y queries) after (room_needed queries) feed_bytes-length);
          }

pub buffer_same :
    {f g : Point → Answer} {queries buffer after : List ℕ} → ((P : Point) → f P ≡ g P) →
    HoldsResults f queries buffer after →
    HoldsResults g queries buffer after
buffer_same {queries = queries} {after = after} e held = record {
  same_length = held.same_length;
  each = λ i h. subst (Encodes after (i * 12)) (e (query_at queries i)) (held.each i h);
  rest = held.rest;
}

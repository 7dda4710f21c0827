-- The claims of specs/Claims, proved. In order: sheet_answers_as_list, sheet_feed_equals_single,
-- sheet_refused_writes_nothing, sheet_never_eighteen, sheet_numbers, sheet_looked_at_most. The chosen candidate is in
-- proofs/Chosen, the octant's answers are in proofs/Octant.
use mathlib.Core.Path.{◌≡◌, refl, sym, ◌∙◌, ap, subst}
use mathlib.Core.Bool.{true}
use mathlib.Core.List.{List}
use Prim.Native.Nat.{ℕ, ◌+◌, ◌*◌, ◌≤◌, ◌<◌}
use native.Mathlib.Omega.{arith}
use lib.Dec.{lit≤, lit<}
use lib.ListN.{length}
use Rattle.sphere.specs.declared.point.Point.{Point}
use Rattle.sphere.specs.Point.{limit_of, is_off_grid}
use Rattle.sphere.specs.Direction.{is_antipodal}
use Rattle.std.specs.declared.result.Result.TheVariants.{Ok, Err}
use Rattle.answer.specs.declared.Refusal.{Refusal}
use Rattle.answer.specs.declared.Reason.TheVariants.{QueryAntipodal, QueryOffGrid}
use Rattle.answer.specs.declared.Verdict.TheVariants.{Done}
use Rattle.answer.specs.Refusal.{Check, reason_number}
use Rattle.answer.specs.Answer.{number_of, answer_after}
use Rattle.answer.specs.Buffer.{buffer_after}
use Rattle.answer.specs.Chain.{◌then◌}
use Rattle.answer.proofs.Laws.Numbers.{Numbered, Other, ◌both◌, if_numbered, after_numbered}
use Rattle.big_endian.proofs.Laws.Rows.{ints_at-length}
use Rattle.answer.proofs.Laws.Chain.{then_passed}
use Rattle.polygon.proofs.Laws.Numbers.{verdict_numbered}
use Rattle.polygon.proofs.Laws.Pair.{optional_judged, judge_accepted, answer_accepted}
use Rattle.fields.specs.Fields.{vertices_start, grid_of, has_second_point}
use Rattle.sheet.specs.Sheet.{known_of, vertex_count_of, vertices_of, second_of, sheet_check}
use Rattle.zone.specs.Judge.{sheet_answer_of, sheet_looked_of, sheet_feed_check, sheet_feed_of, sheet_results_after}
use Rattle.zone.specs.Claims.{SheetAnswersAsList, SheetFeedEqualsSingle, SheetRefusedWritesNothing}
use Rattle.zone.specs.Claims.{SheetNeverEighteen, IsQueryNumber, SheetNumbers, SheetLookedAtMost}
use Rattle.sheet.proofs.Laws.Reads.{sheet_optional, read_accepted}
use Rattle.polygon.specs.Checks.{query_check, far_check}
use Rattle.polygon.specs.Verdict.{boundary_of, crossings_of, winding_of, verdict_of, answer_of}
use Rattle.polygon.specs.Pair.{judge_from, pair_check, optional_check, pair_answer_of}
use Rattle.polygon.proofs.PairClaims.{pair_never_eighteen_holds}
use Rattle.judging.proofs.Claims.{looked_after_lem, looked_bounded}
use Rattle.feed.specs.Feed.{size_check, feed_bytes}
use Rattle.feed.specs.Claims.{HoldsResults}
use Rattle.feed.proofs.Laws.Ends.{size_passed}
use Rattle.feed.proofs.Laws.ResultBuffer.{buffer_results, buffer_same}
use Rattle.zone.proofs.Laws.Feeds.{feed_ends}
use Rattle.sheet.proofs.Laws.Numbers.{sheet_numbered}
use Rattle.sheet.proofs.Claims.{read_done, accepted}

-- ---- judging by a sheet is judging by its parts
pub sheet_answers_as_list : SheetAnswersAsList
unfolding sheet_answer_of
sheet_answers_as_list b P e =
    let done = read_done b e in
    let ok = sheet_optional b done in
    rw (read_accepted b done, done)
    (ok, sym (optional_judged (limit_of (grid_of b)) (vertices_of b) (known_of b) (second_of b) P ok))

-- ---- a feed by a sheet
-- A feed succeeds only if its checks pass.
done_passed : (c : Check) → answer_after c (Ok (Done 0)) ≡ Ok (Done 0) → c ≡ Ok tt
done_passed (Ok unit) e = refl
done_passed (Err refusal) e = let z : ◌≡◌ {A = ℕ} 0 1 = cc in absurd (omega arith)

module _ (b queries buffer : List ℕ) (done : sheet_feed_of b queries (length buffer) ≡ Ok (Done 0)) where
  passed : (size_check queries (length buffer) ≡ Ok tt) × (sheet_check b ≡ Ok tt)
  unfolding sheet_feed_of sheet_feed_check
  passed =
      then_passed (size_check queries (length buffer)) (sheet_check b)
      (done_passed (sheet_feed_check b queries (length buffer)) done)

  whole : sheet_feed_check b queries (length buffer) ≡ Ok tt
  unfolding sheet_feed_of
  whole = done_passed (sheet_feed_check b queries (length buffer)) done

  -- the single call by an accepted sheet
  single : (P : Point) →
      answer_of (limit_of (grid_of b)) (vertices_of b) (judge_from (known_of b) (second_of b) P) P ≡ sheet_answer_of b P
  unfolding sheet_answer_of
  single P = rw passed.1

  sheet_results : HoldsResults (sheet_answer_of b) queries buffer (sheet_results_after b queries buffer)
  sheet_results =
      subst (HoldsResults (sheet_answer_of b) queries buffer) (sym (feed_ends b queries buffer whole).filled)
      (buffer_same single
      (buffer_results (limit_of (grid_of b)) (vertices_of b) (known_of b) (second_of b) queries buffer
      (size_passed queries (length buffer) passed.0) (sheet_optional b passed.1)))

pub sheet_feed_equals_single : SheetFeedEqualsSingle
sheet_feed_equals_single = sheet_results

pub sheet_refused_writes_nothing : SheetRefusedWritesNothing
unfolding sheet_feed_of sheet_results_after
sheet_refused_writes_nothing b queries buffer refused =
    go (sheet_feed_check b queries (length buffer))
    (feed_bytes (limit_of (grid_of b)) (vertices_of b) (known_of b) (second_of b) queries) refused
  where
    go : (c : Check) (bytes : List ℕ) → (answer_after c (Ok (Done 0)) ≡ Ok (Done 0) → ⊥) → buffer_after c bytes buffer ≡ buffer
    go (Ok unit) bytes refused = absurd (refused refl)
    go (Err refusal) bytes refused = refl

sheet_answer_refused : (b : List ℕ) (P : Point) {refusal : Refusal} → sheet_check b ≡ Err refusal →
    number_of (sheet_answer_of b P) ≡ reason_number refusal.reason
unfolding sheet_answer_of
sheet_answer_refused b P e = rw e

-- ---- with a second point
module _ (b : List ℕ) (has : has_second_point b ≡ true) where
  -- judging by an accepted sheet is judging with both points
  paired : sheet_check b ≡ Ok tt → (P : Point) →
      sheet_answer_of b P ≡ pair_answer_of (limit_of (grid_of b)) (vertices_of b) (known_of b) (second_of b) P
  unfolding sheet_answer_of pair_answer_of pair_check optional_check
  paired done P =
      let some = (accepted b done).some has in
      let passes = sheet_optional b done in
      rw (done, rw some at passes)

  never : (P : Point) → number_of (sheet_answer_of b P) ≡ 18 → ⊥
  never P = go (sheet_check b) refl
    where
      other : Numbered (Other 18) (sheet_check b)
      other = sheet_numbered (Other 18) (λ n l m e. omega (arith, l, e)) (λ n l m e. omega (arith, m, e)) b

      go : (c : Check) → sheet_check b ≡ c → number_of (sheet_answer_of b P) ≡ 18 → ⊥
      go (Ok unit) c e =
          pair_never_eighteen_holds (limit_of (grid_of b)) (vertices_of b) (known_of b) (second_of b) P
          (sym (ap number_of (paired c P)) ∙ e)
      go (Err refusal) c e = other.each refusal c (sym (sheet_answer_refused b P c) ∙ e)

pub sheet_never_eighteen : SheetNeverEighteen
sheet_never_eighteen b has = (
  never b has,
  λ queries buffer done i l e.
      let results = sheet_feed_equals_single b queries buffer done in
      never b has _ (sym (results.each i l).number ∙ e),
)

-- ---- the numbers of a query
verdict_number : (n : ℕ) → 1 ≤ n → n ≤ 3 → IsQueryNumber n
verdict_number n l m = IsQueryNumber.verdict l m

refusal_number : (n : ℕ) → 10 < n → n < 25 → IsQueryNumber n
refusal_number n l m = IsQueryNumber.refusal (omega (arith, l)) (omega (arith, m))

module _ (b : List ℕ) (P : Point) where
  -- by an accepted sheet: 17, 18 or a verdict
  judged_number : sheet_check b ≡ Ok tt → IsQueryNumber (number_of (sheet_answer_of b P))
  unfolding sheet_answer_of query_check far_check verdict_of
  judged_number done =
      let limit = limit_of (grid_of b) in
      let vs = vertices_of b in
      let X = judge_from (known_of b) (second_of b) P in
      let accepts = judge_accepted limit vs (known_of b) (second_of b) (sheet_optional b done) P in
      rw (done, answer_accepted limit vs X P accepts)
      (after_numbered {Is = IsQueryNumber} (query_check limit P then far_check X P) (verdict_of vs X P)
      (if_numbered QueryOffGrid (is_off_grid limit P) (refusal_number 17 (lit< tt) (lit< tt))
      both if_numbered QueryAntipodal (is_antipodal X P) (refusal_number 18 (lit< tt) (lit< tt)))
      (verdict_numbered IsQueryNumber (verdict_number 1 (lit≤ tt) (lit≤ tt)) (verdict_number 2 (lit≤ tt) (lit≤ tt))
      (verdict_number 3 (lit≤ tt) (lit≤ tt)) (boundary_of vs P) (crossings_of vs X P) (winding_of vs X P)))

pub sheet_numbers : SheetNumbers
sheet_numbers b P = go (sheet_check b) refl
  where
    refused : Numbered IsQueryNumber (sheet_check b)
    refused =
        sheet_numbered IsQueryNumber (λ n l m. refusal_number n (omega (arith, l)) m)
        (λ n l m. refusal_number n l (omega (arith, m))) b

    go : (c : Check) → sheet_check b ≡ c → IsQueryNumber (number_of (sheet_answer_of b P))
    go (Ok unit) c = judged_number b P c
    go (Err refusal) c = rw (sheet_answer_refused b P c) (refused.each refusal c)

-- ---- the edges looked at
pub sheet_looked_at_most : SheetLookedAtMost
unfolding sheet_looked_of
sheet_looked_at_most b P =
    let X = judge_from (known_of b) (second_of b) P in
    let n = ints_at-length b (vertices_start b + 3) (vertex_count_of b * 3) in
    let few = looked_bounded (limit_of (grid_of b)) (vertices_of b) X P in
    looked_after_lem (sheet_check b) (omega (arith, n, few))

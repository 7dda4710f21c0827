-- The proofs of specs/Claims, in its order: feed_equals_single, refused_writes_nothing, feed_mixed_exactly.
use mathlib.Core.Path.{◌≡◌, refl, ap}
use mathlib.Core.Bool.{not}
use mathlib.Core.List.{List, [], ◌∷◌}
use Prim.Native.Nat.{ℕ, ◌%◌}
use native.Mathlib.Omega.{arith}
use lib.Dec.{eqb, ltb}
use lib.IntN.{ℤ}
use lib.ListN.{length}
use Rattle.sphere.specs.declared.point.Point.{Point}
use Rattle.sphere.specs.declared.point.Grid.{Grid}
use Rattle.sphere.specs.declared.point.GridPoint.{GridPoint}
use Rattle.sphere.specs.Point.{limit_of}
use Rattle.std.specs.declared.result.Result.TheVariants.{Ok, Err}
use Rattle.answer.specs.declared.Reason.TheVariants.{CutRecord, OtherGrid, ResultRoom}
use Rattle.answer.specs.declared.Verdict.TheVariants.{Done}
use Rattle.answer.specs.Refusal.{Check}
use Rattle.answer.specs.Answer.{answer_after}
use Rattle.answer.specs.Chain.{◌then◌, fails_if}
use Rattle.polygon.specs.Checks.{list_check, accept_check}
use Rattle.polygon.specs.Verdict.{answer_of}
use Rattle.polygon.specs.Grids.{is_mixed, grid_check, grid_answer_of}
use Rattle.answer.proofs.Laws.Chain.{then_assoc, after_then}
use Rattle.answer.proofs.Laws.Numbers.{after_numbered, Numbered, Other, ◌both◌, here_numbered, if_numbered}
use Rattle.polygon.proofs.Laws.Mixed.{mixed_after, accept_other, list_other}
use Rattle.feed.specs.Feed.{room_needed, size_check, feed_check, feed_of, results_after}
use Rattle.polygon.specs.Pair.{no_second}
use Rattle.feed.specs.Claims.{FeedEqualsSingle, RefusedWritesNothing, FeedMixedExactly}
use Rattle.feed.proofs.Laws.ResultBuffer.{buffer_results, buffer_same}
use Rattle.feed.proofs.Laws.Ends.{feed_passed, feed_refused, feed_done}
use Rattle.polygon.proofs.Laws.Pair.{judge_none, optional_none}
use Rattle.judging.proofs.Laws.From.{none_null}

-- A feed succeeds only if its checks pass.
done_passed : (c : Check) → answer_after c (Ok (Done 0)) ≡ Ok (Done 0) → c ≡ Ok tt
done_passed (Ok unit) e = refl
done_passed (Err refusal) e = let z : ◌≡◌ {A = ℕ} 0 1 = cc in absurd (omega arith)

pub feed_equals_single : FeedEqualsSingle
unfolding feed_of grid_answer_of
feed_equals_single g vs X h queries buffer e =
    let ok = done_passed (feed_check g vs X h queries (length buffer)) e in
    let checked = feed_passed g vs X h queries (length buffer) ok in
    let accepted = optional_none (limit_of g) vs X.point no_second checked.accepted none_null in
    rw (feed_done g vs X h queries buffer ok).filled
    (buffer_same
    (λ P.
    let alone = judge_none X.point no_second P none_null in
    rw checked.unmixed (ap (λ (Q : Point). answer_of (limit_of g) vs Q P) alone))
    (buffer_results (limit_of g) vs X.point no_second queries buffer checked.enough accepted))

module _ (g : Grid) (vs : List ℤ) (X : GridPoint) (h : Grid) (queries buffer : List ℕ) where
  unwritten : (c : Check) → feed_check g vs X h queries (length buffer) ≡ c →
      (feed_of g vs X h queries (length buffer) ≡ Ok (Done 0) → ⊥) → results_after g vs X h queries buffer ≡ buffer
  unwritten (Ok unit) e refused = absurd (refused (feed_done g vs X h queries buffer e).answered)
  unwritten (Err refusal) e refused = (feed_refused g vs X h queries buffer e).filled

pub refused_writes_nothing : RefusedWritesNothing
refused_writes_nothing g vs X h queries buffer refused =
    unwritten g vs X h queries buffer (feed_check g vs X h queries (length buffer)) refl refused

pub feed_mixed_exactly : FeedMixedExactly
unfolding feed_of feed_check grid_check size_check
feed_mixed_exactly g vs X h queries room =
    let size = size_check queries room in
    let mixed = fails_if OtherGrid (is_mixed g (X.grid ∷ h ∷ [])) in
    let accept = accept_check (limit_of g) vs X.point in
    let n = room_needed queries in
    let before : Numbered (Other 28) (size then list_check vs) =
    (if_numbered CutRecord (not (eqb (length queries % 12) 0)) (λ e. omega arith)
    both here_numbered ResultRoom n (ltb room n) (λ e. omega arith))
    both list_other vs in
    rw (
      then_assoc size (list_check vs then mixed) accept,
      then_assoc size (list_check vs) mixed,
      after_then ((size then list_check vs) then mixed) accept (Ok (Done 0)),
    )
    (mixed_after (size then list_check vs) _ _ before
    (after_numbered accept (Ok (Done 0)) (accept_other (limit_of g) vs X.point) (λ e. omega arith)))

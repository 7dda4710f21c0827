-- The proofs of specs/Claims. Defined: Moved (what a redrawing leaves of an answer). Proved, in order: redrawn_alike,
-- redrawn_winding (by induction over the redrawing); crossings_same, winding_same, clear_same (a reference point and a
-- query of other lengths); moved, accepted, alike-moved; whole_list; the claims.
use mathlib.Core.Path.{◌≡◌, refl, sym, ◌∙◌, ap}
use mathlib.Core.Bool.{Bool, true, false, not, cond, ◌&&◌}
use mathlib.Core.List.{List}
use Prim.Native.Nat.{ℕ, zero, suc, ◌%◌, ◌/◌, ◌<◌}
use native.Mathlib.Omega.{arith}
use borrow.Author.Tests.{eqb-true}
use lib.Dec.{eqb, leb}
use lib.IntN.{ℤ, pos, neg_ℤ, neg_ℤ-neg_ℤ}
use lib.ListN.{length}
use Rattle.integers.specs.Sign.{unit_of}
use Rattle.sphere.specs.declared.point.Point.{Point}
use Rattle.sphere.specs.Crossing.{crossing_of}
use Rattle.sphere.proofs.Laws.Aligned.{Aligned, aligned_refl}
use Rattle.sphere.proofs.Laws.Crossing.{crossing_aligned, crosses_aligned}
use Rattle.sphere.proofs.Laws.OnEdge.{on_edge_aligned}
use Rattle.std.specs.declared.option.Option.{Option}
use Rattle.std.specs.declared.option.Option.TheVariants.{None, Some}
use Rattle.std.specs.declared.result.Result.TheVariants.{Ok}
use Rattle.answer.specs.Refusal.{Answer}
use Rattle.answer.specs.declared.Verdict.TheVariants.{Inside, Outside}
use Rattle.answer.specs.Answer.{number_of, count_of, sum_of}
use Rattle.answer.specs.Search.{count_from, sum_from}
use Rattle.answer.proofs.Laws.Chain.{then_passed, both_true}
use Rattle.answer.proofs.Laws.First.{none_first}
use Rattle.answer.proofs.Laws.Search.{first_none, found_none}
use Rattle.polygon.specs.Vertices.{vertices_count, start_of, end_of, reversed_of}
use Rattle.polygon.specs.Border.{is_border}
use Rattle.polygon.specs.Checks.{accept_check, judge_check}
use Rattle.polygon.specs.Verdict.{way_of, is_on_border, boundary_of, crossings_of, winding_of, verdict_by, verdict_of}
use Rattle.polygon.proofs.Laws.Checks.{OffCircles, reference_accepted, polygon_first, accept_polygon, list_holds}
use Rattle.polygon.proofs.Laws.Reversed.{reversed_count, reversed_mirrored}
use Rattle.polygon.proofs.Verdict.{answer_judged}
use Rattle.polygon.proofs.Winding.{winding_mirrored}
use Rattle.redraw.specs.Redraw.{started_at, added_to}
use Rattle.redraw.specs.Redraw.{Redrawn, started, reversed, lengthened, added, undone, next, is_turned}
use Rattle.redraw.specs.Claims.{OfBoth, signed_by, RedrawnMattersNot, StartMattersNot, ReversalMattersNot}
use Rattle.redraw.specs.Claims.{LengthMattersNot, AddedMattersNot, RedrawnSum, StartKeepsSum}
use Rattle.redraw.specs.Claims.{ReversalNegatesSum, AddedKeepsSum, LengthKeepsAnswer}
use Rattle.redraw.proofs.Directions.{align, same_back}
use Rattle.redraw.proofs.Rings.{started_sum}
use Rattle.redraw.proofs.Alike.{Alike, alike_undone, alike_next, same_alike}
use Rattle.redraw.proofs.Alike.{started_same, reversed_same, lengthened_same}
use Rattle.redraw.proofs.Halves.{new_winding}
use Rattle.redraw.proofs.Classes.{added_alike}
use Rattle.redraw.proofs.Lengths.{same_winding, same_verdict}

-- ---- what two redrawn lists share
pub redrawn_alike : {vs ws : List ℤ} (X : Point) → Redrawn vs ws → Alike vs ws X
redrawn_alike X (started {vs = vs} k whole low) = same_alike vs (started_at vs k) X (started_same vs k whole low)
redrawn_alike X (reversed {vs = vs}) = same_alike vs (reversed_of vs) X (reversed_same vs)
redrawn_alike X (lengthened {vs = vs} {ws = ws} l) = same_alike vs ws X (lengthened_same vs ws l)
redrawn_alike X (added {vs = vs} e M a) = added_alike vs e M X a
redrawn_alike X (undone r) = alike_undone (redrawn_alike X r)
redrawn_alike X (next r s) = alike_next (redrawn_alike X r) (redrawn_alike X s)

signed_twice : (t : Bool) (z : ℤ) → signed_by t (signed_by t z) ≡ z
signed_twice true z = neg_ℤ-neg_ℤ z
signed_twice false z = refl

signed_next : (a b : Bool) (z : ℤ) → signed_by b (signed_by a z) ≡ signed_by (cond a (not b) b) z
signed_next true true z = neg_ℤ-neg_ℤ z
signed_next true false z = refl
signed_next false b z = refl

reversed_winding : (vs : List ℤ) (X P : Point) → winding_of (reversed_of vs) X P ≡ neg_ℤ (winding_of vs X P)
unfolding winding_of sum_from
reversed_winding vs X P = go (vertices_count vs) refl
  where
    go : (n : ℕ) → vertices_count vs ≡ n → winding_of (reversed_of vs) X P ≡ neg_ℤ (winding_of vs X P)
    go zero e = ap (sum_from (way_of (reversed_of vs) X P) 0) (reversed_count vs ∙ e)
        ∙ sym (ap (λ n. neg_ℤ (sum_from (way_of vs X P) 0 n)) e)
    go (suc m) e =
        winding_mirrored vs (reversed_of vs) m (reversed_mirrored vs m e) X P e (reversed_count vs ∙ e)

pub redrawn_winding : {vs ws : List ℤ} (r : Redrawn vs ws) (X P : Point) →
    winding_of ws X P ≡ signed_by (is_turned r) (winding_of vs X P)
unfolding winding_of added_to
redrawn_winding (started {vs = vs} k whole low) X P =
    started_sum (λ A B. unit_of (crossing_of X P A B)) vs k whole low
redrawn_winding (reversed {vs = vs}) X P = reversed_winding vs X P
redrawn_winding (lengthened {vs = vs} {ws = ws} l) X P = same_winding vs ws l X X P P (aligned_refl X) (aligned_refl P)
redrawn_winding (added {vs = vs} e M a) X P =
    new_winding vs (start_of vs e) (end_of vs e) M a.amid (omega (arith, a.edge)) X P
redrawn_winding (undone {vs = vs} r) X P =
    sym (ap (signed_by (is_turned r)) (redrawn_winding r X P) ∙ signed_twice (is_turned r) (winding_of vs X P))
redrawn_winding (next {vs = vs} r s) X P =
    redrawn_winding s X P ∙ ap (signed_by (is_turned s)) (redrawn_winding r X P)
    ∙ signed_next (is_turned r) (is_turned s) (winding_of vs X P)

-- ---- a reference point and a query of other lengths
module _ (vs : List ℤ) (X X' P P' : Point) (x : Aligned X X') (p : Aligned P P') where
  pub crossings_same : crossings_of vs X P ≡ crossings_of vs X' P'
  unfolding crossings_of
  crossings_same = λ i. count_from (λ j. crosses_aligned X P (start_of vs j) (end_of vs j) X' P' (start_of vs j)
      (end_of vs j) x p (aligned_refl (start_of vs j)) (aligned_refl (end_of vs j)) i) 0 (vertices_count vs)

  winding_same : winding_of vs X P ≡ winding_of vs X' P'
  unfolding winding_of
  winding_same = λ i. sum_from (λ j. unit_of (crossing_aligned X P (start_of vs j) (end_of vs j) X' P' (start_of vs j)
      (end_of vs j) x p (aligned_refl (start_of vs j)) (aligned_refl (end_of vs j)) i)) 0 (vertices_count vs)

  pub clear_same : OffCircles vs X → boundary_of vs P ≡ None → boundary_of vs P' ≡ None
  unfolding boundary_of
  clear_same off h = none_first (is_on_border vs P') 0 (vertices_count vs) (λ i from below.
      let l : i < vertices_count vs = omega arith in
      ap (λ b. b && is_border vs i) (sym (on_edge_aligned (start_of vs i) (end_of vs i) X (off i l) P (start_of vs i)
      (end_of vs i) P' (aligned_refl (start_of vs i)) (aligned_refl (end_of vs i)) p))
      ∙ first_none (is_on_border vs P) 0 (vertices_count vs) i h from below)

-- ---- from what the verdicts share to the answers
pub record Moved (turned : Bool) (a b : Answer) : Type 0 where
  pub number : number_of b ≡ number_of a
  pub count : count_of b ≡ count_of a
  pub sum : sum_of b ≡ signed_by turned (sum_of a)

moved : (turned : Bool) (f g : Option ℕ) (c d : ℕ) (s t : ℤ) → (f ≡ None → g ≡ None) →
    (g ≡ None → f ≡ None) → d ≡ c → t ≡ signed_by turned s → Moved turned (verdict_by f c s) (verdict_by g d t)
moved turned (Some e) (Some e') c d s t p q same sums = record { number = refl; count = refl; sum = zero turned }
  where
    zero : (turned : Bool) → pos 0 ≡ signed_by turned (pos 0)
    zero true = refl
    zero false = refl
moved turned (Some e) None c d s t p q same sums = found_none (q refl)
moved turned None (Some e) c d s t p q same sums = found_none (p refl)
moved turned None None c d s t p q same sums = rw (same, sums) (go (eqb (c % 2) 0))
  where
    go : (even : Bool) → Moved turned (cond even (Ok (Inside c s)) (Ok (Outside c s)))
        (cond even (Ok (Inside c (signed_by turned s))) (Ok (Outside c (signed_by turned s))))
    go true = record { number = refl; count = refl; sum = refl }
    go false = record { number = refl; count = refl; sum = refl }

pub accepted : (limit : ℕ) (vs : List ℤ) (X P : Point) → judge_check limit vs X P ≡ Ok tt →
    accept_check limit vs X ≡ Ok tt
unfolding judge_check
accepted limit vs X P h = (then_passed (accept_check limit vs X) _ h).0

judged_off : (limit : ℕ) (vs : List ℤ) (X P : Point) → judge_check limit vs X P ≡ Ok tt → OffCircles vs X
judged_off limit vs X P h = (reference_accepted limit vs X (accepted limit vs X P h)).off_circle

redrawn_moved : (vs ws : List ℤ) (r : Redrawn vs ws) → OfBoth vs ws (Moved (is_turned r))
unfolding verdict_of
redrawn_moved vs ws r limit limit' X X' P P' b =
    rw (answer_judged limit vs X P b.first, answer_judged limit' ws X' P' b.second)
    (moved (is_turned r) (boundary_of vs P) (boundary_of ws P') (crossings_of vs X P) (crossings_of ws X' P')
    (winding_of vs X P) (winding_of ws X' P')
    (λ h. clear_same ws X X' P P' x p (alike.off_to off) (alike.clear_to off P h))
    (λ h. alike.clear_from off P (clear_same ws X' X P' P x' p' (judged_off limit' ws X' P' b.second) h))
    (sym (crossings_same ws X X' P P' x p) ∙ alike.crossings P)
    (sym (winding_same ws X X' P P' x p) ∙ redrawn_winding r X P))
  where
    x : Aligned X X'
    x = align X X' b.reference

    p : Aligned P P'
    p = align P P' b.query

    x' : Aligned X' X
    x' = align X' X (same_back X X' b.reference)

    p' : Aligned P' P
    p' = align P' P (same_back P P' b.query)

    alike : Alike vs ws X
    alike = redrawn_alike X r

    off : OffCircles vs X
    off = judged_off limit vs X P b.first

-- An accepted list is of whole vertices.
pub whole_list : (limit : ℕ) (vs : List ℤ) (X : Point) → accept_check limit vs X ≡ Ok tt → length vs % 3 ≡ 0
whole_list limit vs X h = eqb-true (length vs % 3) 0
    (both_true (eqb (length vs % 3) 0) (leb 3 (length vs / 3) && leb (length vs / 3) 4096)
    (list_holds vs (polygon_first limit vs (accept_polygon limit vs X h)).0)).0

-- ---- the claims
pub redrawn_holds : RedrawnMattersNot
redrawn_holds vs ws r limit limit' X X' P P' b =
    let m = redrawn_moved vs ws r limit limit' X X' P P' b in record { number = m.number; count = m.count }

pub start_holds : StartMattersNot
start_holds vs k low limit limit' X X' P P' b =
    redrawn_holds vs (started_at vs k) (started k (whole_list limit vs X (accepted limit vs X P b.first)) low)
    limit limit' X X' P P' b

pub reversal_holds : ReversalMattersNot
reversal_holds vs = redrawn_holds vs (reversed_of vs) reversed

pub length_holds : LengthMattersNot
length_holds vs ws l = redrawn_holds vs ws (lengthened l)

pub added_holds : AddedMattersNot
added_holds vs e M a = redrawn_holds vs (added_to vs e M) (added e M a)

pub redrawn_sum : RedrawnSum
redrawn_sum vs ws r limit limit' X X' P P' b = (redrawn_moved vs ws r limit limit' X X' P P' b).sum

pub start_keeps_sum : StartKeepsSum
start_keeps_sum vs k low limit limit' X X' P P' b =
    redrawn_sum vs (started_at vs k) (started k (whole_list limit vs X (accepted limit vs X P b.first)) low)
    limit limit' X X' P P' b

pub reversal_negates_sum : ReversalNegatesSum
reversal_negates_sum vs = redrawn_sum vs (reversed_of vs) reversed

pub added_keeps_sum : AddedKeepsSum
added_keeps_sum vs e M a = redrawn_sum vs (added_to vs e M) (added e M a)

pub length_keeps_answer : LengthKeepsAnswer
length_keeps_answer vs ws l limit limit' X X' P P' b =
    answer_judged limit' ws X' P' b.second
    ∙ same_verdict vs ws l X X' P P' (align X X' b.reference) (align P P' b.query)
    (judged_off limit vs X P b.first)
    ∙ sym (answer_judged limit vs X P b.first)

-- Redrawn lists with pairs of reference points. The parity from the point that judges is the bit of the first plus the
-- bit of the query (Judged), and bits are counts of crossings, which no redrawing changes. Proved, in order: pair-
-- unmoved; after_passed, first_passed, query_on_grid, not_far, redrawn_verdicts (every refusal is 10 or more: where
-- the number is at most 3, all checks passed).
use mathlib.Core.Path.{◌≡◌, refl, sym, ◌∙◌, ap, ap₂, subst}
use mathlib.Core.Bool.{Bool, true, false, cond}
use mathlib.Core.List.{List}
use Prim.Native.Nat.{ℕ, ◌+◌, ◌%◌, ◌≤◌, ◌<◌}
use native.Mathlib.Omega.{arith}
use lib.IntN.{ℤ}
use Rattle.sphere.specs.declared.point.Point.{Point}
use Rattle.sphere.specs.Direction.{is_same_direction}
use Rattle.sphere.proofs.Parity.{◌⊕◌}
use Rattle.sphere.proofs.Generic.{generic}
use Rattle.sphere.proofs.Laws.Aligned.{aligned_refl}
use Rattle.std.specs.declared.option.Option.{Option}
use Rattle.std.specs.declared.option.Option.TheVariants.{None, Some}
use Rattle.std.specs.declared.result.Result.TheVariants.{Ok, Err}
use Rattle.answer.specs.Refusal.{Check, Answer, reason_number}
use Rattle.answer.specs.Answer.{number_of, answer_after}
use Rattle.answer.proofs.Laws.Chain.{then_passed}
use Rattle.answer.proofs.Laws.Numbers.{Numbered}
use Rattle.answer.proofs.Laws.Search.{found_none}
use Rattle.polygon.specs.Vertices.{vertices_count}
use Rattle.polygon.specs.Checks.{list_check, accept_check, query_check, far_check, judge_check}
use Rattle.polygon.specs.Verdict.{is_crossed, boundary_of, crossings_of, verdict_of, answer_of}
use Rattle.polygon.specs.Pair.{judge_from, optional_check, optional_answer_of}
use Rattle.polygon.proofs.Laws.Count.{count_odd}
use Rattle.polygon.proofs.Laws.Checks.{OffCircles, reference_accepted}
use Rattle.polygon.proofs.Laws.Numbers.{list_numbered, optional_numbered, judge_numbered}
use Rattle.polygon.proofs.Laws.Pair.{optional_first}
use Rattle.polygon.proofs.Potential.{arc, bit}
use Rattle.polygon.proofs.Verdict.{number_by}
use Rattle.redraw.specs.PairClaims.{PairUnmoved, RedrawnVerdicts}
use Rattle.redraw.proofs.Judged.{number_by_lem, arc_judged}
use Rattle.redraw.proofs.Directions.{align, same_back}
use Rattle.redraw.proofs.Alike.{Alike}
use Rattle.redraw.proofs.Claims.{redrawn_alike, crossings_same, clear_same}

-- ---- counts and parities
odd_of : (a b : Bool) → ◌≡◌ {A = ℕ} (cond a 1 0) (cond b 1 0) → a ≡ b
odd_of true true e = refl
odd_of true false e = absurd (omega arith)
odd_of false true e = absurd (omega arith)
odd_of false false e = refl

arc_same : (vs ws : List ℤ) (X P Y Q : Point) → crossings_of vs X P ≡ crossings_of ws Y Q → arc vs X P ≡ arc ws Y Q
unfolding crossings_of
arc_same vs ws X P Y Q e = odd_of (arc vs X P) (arc ws Y Q)
    (sym (count_odd (is_crossed vs X P) 0 (vertices_count vs)) ∙ ap (λ n. n % 2) e
    ∙ count_odd (is_crossed ws Y Q) 0 (vertices_count ws))

numbers : (f g : Option ℕ) (a b : Bool) → (f ≡ None → g ≡ None) → (g ≡ None → f ≡ None) →
    (f ≡ None → g ≡ None → a ≡ b) → number_by g b ≡ number_by f a
numbers (Some e) (Some e') a b p q h = refl
numbers (Some e) None a b p q h = found_none (q refl)
numbers None (Some e) a b p q h = found_none (p refl)
numbers None None a b p q h = ap (number_by None) (sym (h refl refl))

pub pair_unmoved : PairUnmoved
unfolding bit
pair_unmoved vs ws r limit limit' X X₂ Y Y₂ P P' b =
    number_by_lem limit' wide big' ws Y Y₂ P' b.second b.second_query b.second_near
    ∙ numbers (boundary_of vs P) (boundary_of ws P') (arc vs (judge_from X X₂ P) P) (arc ws (judge_from Y Y₂ P') P')
    (λ h. clear_same ws X Y P P' (align X Y b.reference) (align P P' b.query) ((alike X).off_to off)
    ((alike X).clear_to off P h))
    (λ h. (alike X).clear_from off P (clear_same ws Y X P' P (align Y X (same_back X Y b.reference))
    (align P' P (same_back P P' b.query)) off' h))
    (λ f g. arc_judged limit wide big vs X X₂ P b.first b.first_query b.first_near f
    ∙ ap₂ ◌⊕◌ (bits X Y b.reference) (bits P P' b.query)
    ∙ sym (arc_judged limit' wide big' ws Y Y₂ P' b.second b.second_query b.second_near g))
    ∙ sym (number_by_lem limit wide big vs X X₂ P b.first b.first_query b.first_near)
  where
    wide : ℕ
    wide = limit + limit'

    big : limit ≤ wide
    big = omega arith

    big' : limit' ≤ wide
    big' = omega arith

    alike : (X : Point) → Alike vs ws X
    alike X = redrawn_alike X r

    off : OffCircles vs X
    off = (reference_accepted limit vs X (optional_first limit vs X X₂ b.first)).off_circle

    off' : OffCircles ws Y
    off' = (reference_accepted limit' ws Y (optional_first limit' ws Y Y₂ b.second)).off_circle

    Z : Point
    Z = generic wide

    bits : (P P' : Point) → is_same_direction P P' ≡ true → bit wide vs P ≡ bit wide ws P'
    bits P P' e = arc_same vs ws Z P Z P'
        (sym ((alike Z).crossings P) ∙ crossings_same ws Z Z P P' (aligned_refl Z) (align P P' e))

-- ---- by the answers alone
-- A verdict comes after checks that passed, if they refuse with larger numbers.
pub after_passed : {Is : ℕ → Type 0} → ((n : ℕ) → Is n → 3 < n) → (c : Check) (a : Answer) → Numbered Is c →
    number_of (answer_after c a) ≤ 3 → c ≡ Ok tt
after_passed larger (Ok unit) a h k = refl
after_passed larger (Err refusal) a h k = absurd (omega (arith, larger (reason_number refusal.reason) (h.each refusal refl)))

abbrev Late : ℕ → Type 0
Late n = 3 < n

module _ (limit : ℕ) (vs : List ℤ) (X Y P : Point) (h : number_of (optional_answer_of limit vs X Y P) ≤ 3) where
  list_late : Numbered Late (list_check vs)
  list_late = list_numbered Late limit vs (omega arith)

  pub first_passed : optional_check limit vs X Y ≡ Ok tt
  unfolding optional_answer_of
  first_passed = after_passed (λ n late. late) (optional_check limit vs X Y) _
      (optional_numbered Late limit vs list_late (λ n l m. omega arith) X (omega arith) Y) h

  answered : number_of (answer_of limit vs (judge_from X Y P) P) ≤ 3
  unfolding optional_answer_of
  answered = subst (λ c. number_of (answer_after c (answer_of limit vs (judge_from X Y P) P)) ≤ 3) first_passed h

  pub query_on_grid : query_check limit P ≡ Ok tt
  unfolding answer_of judge_check
  query_on_grid =
      let U = judge_from X Y P in
      let judged = after_passed (λ n late. late) (judge_check limit vs U P) (verdict_of vs U P)
      (judge_numbered Late limit vs list_late (λ n l m. omega arith) U (omega arith) (omega arith) P) answered in
      (then_passed (query_check limit P) (far_check U P) (then_passed (accept_check limit vs U) _ judged).1).0

  pub not_far : number_of (optional_answer_of limit vs X Y P) ≡ 18 → ⊥
  not_far e = larger (number_of (optional_answer_of limit vs X Y P)) h e
    where
      larger : (n : ℕ) → n ≤ 3 → n ≡ 18 → ⊥
      larger n h e = omega arith

pub redrawn_verdicts : RedrawnVerdicts
redrawn_verdicts vs ws r limit limit' X X₂ Y Y₂ P P' b = pair_unmoved vs ws r limit limit' X X₂ Y Y₂ P P' (record {
  reference = b.reference;
  query = b.query;
  first = first_passed limit vs X X₂ P b.first;
  second = first_passed limit' ws Y Y₂ P' b.second;
  first_query = query_on_grid limit vs X X₂ P b.first;
  second_query = query_on_grid limit' ws Y Y₂ P' b.second;
  first_near = not_far limit vs X X₂ P b.first;
  second_near = not_far limit' ws Y Y₂ P' b.second;
})

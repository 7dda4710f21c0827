-- Two reference points agree on one query exactly when they agree on another: what each calls a query is its own bit
-- plus that of the query. Proved, in order: judged (a query that gets inside or outside), bits, alike, agreement_pair;
-- agreement (of two points alone).
use mathlib.Core.Path.{◌≡◌, refl, sym, ◌∙◌, ap}
use mathlib.Core.Logic.{◌⊎◌, inl, inr}
use mathlib.Core.Bool.{Bool, true, false, cond}
use mathlib.Core.List.{List}
use Prim.Native.Nat.{ℕ, ◌<◌}
use native.Mathlib.Omega.{arith}
use lib.IntN.{ℤ}
use Rattle.sphere.specs.declared.point.Point.{Point}
use Rattle.sphere.specs.Point.{origin, is_off_grid}
use Rattle.sphere.proofs.Parity.{◌⊕◌}
use Rattle.std.specs.declared.option.Option.{Option}
use Rattle.std.specs.declared.option.Option.TheVariants.{None, Some}
use Rattle.std.specs.declared.result.Result.TheVariants.{Ok}
use Rattle.answer.specs.Refusal.{Answer}
use Rattle.answer.specs.Answer.{number_of}
use Rattle.polygon.specs.Checks.{accept_check, query_check, judge_check}
use Rattle.polygon.specs.Verdict.{boundary_of, answer_of}
use Rattle.polygon.specs.Pair.{judge_from, optional_check, optional_answer_of}
use Rattle.polygon.specs.Claims.{InOrOut, Alike, Agreement}
use Rattle.polygon.specs.PairClaims.{AgreementPair}
use Rattle.polygon.proofs.Laws.Pair.{judge_accepted, optional_judged}
use Rattle.polygon.proofs.Potential.{arc, bit}
use Rattle.polygon.proofs.Verdict.{number_by}
use Rattle.polygon.proofs.Demand3.{U, number_optional, arc_optional, alone, judged_alone}

low : {n : ℕ} → (n ≡ 1) ⊎ (n ≡ 2) → n < 3
low (inl e) = omega (arith, e)
low (inr e) = omega (arith, e)

below : (f : Option ℕ) (odd : Bool) → number_by f odd < 3 → f ≡ None
below (Some edge) odd h = absurd (omega (arith, h))
below None odd h = refl

-- ---- a query that gets inside or outside from a reference point with a second one or none
module _ (limit : ℕ) (vs : List ℤ) (X X' P : Point) (x : optional_check limit vs X X' ≡ Ok tt)
    (n : InOrOut (optional_answer_of limit vs X X' P)) where
  few : number_of (optional_answer_of limit vs X X' P) < 3
  few = low n

  fair : number_of (optional_answer_of limit vs X X' P) ≡ 18 → ⊥
  fair e = omega (arith, few, e)

  judged : query_check limit P ≡ Ok tt
  unfolding query_check answer_of judge_check
  judged = go (is_off_grid limit P) refl
    where
      refused : is_off_grid limit P ≡ true → number_of (answer_of limit vs (judge_from X X' P) P) ≡ 17
      refused h = rw (judge_accepted limit vs X X' x P, h)

      go : (b : Bool) → is_off_grid limit P ≡ b → query_check limit P ≡ Ok tt
      go true h = absurd (omega (arith, few, ap number_of (optional_judged limit vs X X' P x) ∙ refused h))
      go false h = rw h

  clear : boundary_of vs P ≡ None
  unfolding U
  clear =
      let e = number_optional limit vs X X' x P judged fair in
      below (boundary_of vs P) (arc vs (judge_from X X' P) P) (omega (arith, few, e))

  bits : number_of (optional_answer_of limit vs X X' P) ≡ cond (bit limit vs X ⊕ bit limit vs P) 2 1
  unfolding U
  bits =
      number_optional limit vs X X' x P judged fair
      ∙ ap (λ f. number_by f (arc vs (judge_from X X' P) P)) clear
      ∙ ap (λ b. cond b 2 1) (arc_optional limit vs X X' x P judged fair clear)

same : (x y p q : Bool) → cond {A = ℕ} (x ⊕ p) 2 1 ≡ cond (y ⊕ p) 2 1 → cond {A = ℕ} (x ⊕ q) 2 1 ≡ cond (y ⊕ q) 2 1
same true true p q e = refl
same false false p q e = refl
same true false true q e = absurd (omega (arith, e))
same true false false q e = absurd (omega (arith, e))
same false true true q e = absurd (omega (arith, e))
same false true false q e = absurd (omega (arith, e))

-- Of any four answers, so that nothing of the answers themselves is looked at.
alike : (a b p q : Bool) (k l m n : Answer) → number_of k ≡ cond (a ⊕ p) 2 1 → number_of l ≡ cond (b ⊕ p) 2 1 →
    number_of m ≡ cond (a ⊕ q) 2 1 → number_of n ≡ cond (b ⊕ q) 2 1 → Alike k l m n
alike a b p q k l m n ek el em en = record {
  first→second = λ e. em ∙ same a b p q (sym ek ∙ e ∙ el) ∙ sym en;
  second→first = λ e. ek ∙ same a b q p (sym em ∙ e ∙ en) ∙ sym el;
}

alike_by : (k l m n k' l' m' n' : Answer) → number_of k' ≡ number_of k → number_of l' ≡ number_of l →
    number_of m' ≡ number_of m → number_of n' ≡ number_of n → Alike k' l' m' n' → Alike k l m n
alike_by k l m n k' l' m' n' ek el em en both = record {
  first→second = λ e. sym em ∙ both.first→second (ek ∙ e ∙ sym el) ∙ en;
  second→first = λ e. sym ek ∙ both.second→first (em ∙ e ∙ sym en) ∙ el;
}

pub agreement_pair : AgreementPair
agreement_pair limit vs X X' Y Y' P Q x y xP yP xQ yQ =
    alike (bit limit vs X) (bit limit vs Y) (bit limit vs P) (bit limit vs Q)
    (optional_answer_of limit vs X X' P) (optional_answer_of limit vs Y Y' P)
    (optional_answer_of limit vs X X' Q) (optional_answer_of limit vs Y Y' Q)
    (bits limit vs X X' P x xP) (bits limit vs Y Y' P y yP) (bits limit vs X X' Q x xQ) (bits limit vs Y Y' Q y yQ)

-- ---- two reference points alone
pub agreement : Agreement
agreement limit vs X Y P Q x y xP yP xQ yQ =
    let both = agreement_pair limit vs X origin Y origin P Q (alone limit vs X x) (alone limit vs Y y)
    (back X x P xP) (back Y y P yP) (back X x Q xQ) (back Y y Q yQ) in
    alike_by (answer_of limit vs X P) (answer_of limit vs Y P) (answer_of limit vs X Q) (answer_of limit vs Y Q)
    (optional_answer_of limit vs X origin P) (optional_answer_of limit vs Y origin P)
    (optional_answer_of limit vs X origin Q) (optional_answer_of limit vs Y origin Q)
    (to X x P) (to Y y P) (to X x Q) (to Y y Q) both
  where
    to : (U : Point) → accept_check limit vs U ≡ Ok tt → (P : Point) →
        number_of (optional_answer_of limit vs U origin P) ≡ number_of (answer_of limit vs U P)
    to U u P = ap number_of (judged_alone limit vs U u P)

    carry : {m n : ℕ} → m ≡ n → (n ≡ 1) ⊎ (n ≡ 2) → (m ≡ 1) ⊎ (m ≡ 2)
    carry e (inl h) = inl (e ∙ h)
    carry e (inr h) = inr (e ∙ h)

    back : (U : Point) (u : accept_check limit vs U ≡ Ok tt) (P : Point) → InOrOut (answer_of limit vs U P) →
        InOrOut (optional_answer_of limit vs U origin P)
    back U u P n = carry (to U u P) n

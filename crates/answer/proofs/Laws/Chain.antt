-- Chains of checks. Proved, in order: failed_not_passed, passed, here_passed, fails_at_passed, then_passed, then_assoc,
-- after_then, after_refused (a refusal's answer has its number and place); both_true.
use mathlib.Core.Path.{◌≡◌, refl, sym}
use mathlib.Core.Bool.{Bool, true, false, ◌&&◌, true≢false}
use Prim.Native.Nat.{ℕ}
use native.Mathlib.Omega.{arith}
use Rattle.std.specs.declared.option.Option.{Option}
use Rattle.std.specs.declared.option.Option.TheVariants.{None, Some}
use Rattle.std.specs.declared.result.Result.TheVariants.{Ok, Err}
use Rattle.answer.specs.declared.Reason.{Reason}
use Rattle.answer.specs.declared.Refusal.{Refusal}
use Rattle.answer.specs.Refusal.{Check, Answer}
use Rattle.answer.specs.Answer.{number_of, place_of, answer_after}
use Rattle.answer.specs.Chain.{check_number_of, check_place_of, ◌then◌, is_passed, fails_here, fails_at}

-- A refusal is no pass.
pub failed_not_passed : {refusal : Refusal} {A : Type 0} → ◌≡◌ {A = Check} (Err refusal) (Ok tt) → A
failed_not_passed e = let z : ◌≡◌ {A = ℕ} 0 1 = cc in absurd (omega arith)

pub passed : (c : Check) → is_passed c ≡ true → c ≡ Ok tt
passed (Ok unit) e = refl
passed (Err refusal) e = absurd (true≢false (sym e))

pub here_passed : (reason : Reason) (place : ℕ) (bad : Bool) → fails_here reason place bad ≡ Ok tt → bad ≡ false
here_passed reason place true e = failed_not_passed e
here_passed reason place false e = refl

pub fails_at_passed : (reason : Reason) (found : Option ℕ) → fails_at reason found ≡ Ok tt → found ≡ None
fails_at_passed reason None e = refl
fails_at_passed reason (Some place) e = failed_not_passed e

pub then_passed : (first next : Check) → first then next ≡ Ok tt → (first ≡ Ok tt) × (next ≡ Ok tt)
then_passed (Ok unit) next e = (refl, e)
then_passed (Err refusal) next e = failed_not_passed e

pub then_assoc : (a b c : Check) → a then (b then c) ≡ (a then b) then c
then_assoc (Ok unit) b c = refl
then_assoc (Err refusal) b c = refl

-- The answer after two checks.
pub after_then : (a b : Check) (answer : Answer) → answer_after (a then b) answer ≡ answer_after a (answer_after b answer)
after_then (Ok unit) b answer = refl
after_then (Err refusal) b answer = refl

pub after_refused : (c : Check) (a : Answer) → is_passed c ≡ false →
    (number_of (answer_after c a) ≡ check_number_of c) × (place_of (answer_after c a) ≡ check_place_of c)
after_refused (Ok unit) a e = absurd (true≢false e)
after_refused (Err refusal) a e = (refl, refl)

pub both_true : (a b : Bool) → (a && b) ≡ true → (a ≡ true) × (b ≡ true)
both_true true b e = (refl, e)
both_true false b e = absurd (true≢false (sym e))

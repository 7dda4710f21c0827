-- The numbers that a check may refuse with, by any property of them. Defined: Numbered, Other (any but this one).
-- Proved, in order: passed_numbered, failed_numbered, then_numbered, _both_ (checks in a chain), here_numbered,
-- if_numbered, at_numbered, where_numbered, unless_numbered, after_numbered (of an answer).
use mathlib.Core.Path.{◌≡◌, refl, sym, subst}
use mathlib.Core.Bool.{Bool, true, false, cond}
use Prim.Native.Nat.{ℕ}
use Rattle.std.specs.declared.option.Option.{Option}
use Rattle.std.specs.declared.option.Option.TheVariants.{None, Some}
use Rattle.std.specs.declared.result.Result.TheVariants.{Ok, Err}
use Rattle.answer.specs.declared.Reason.{Reason}
use Rattle.answer.specs.declared.Refusal.{Refusal}
use Rattle.answer.specs.Refusal.{Check, Answer, reason_number}
use Rattle.answer.specs.Answer.{number_of, answer_after}
use Rattle.answer.specs.Chain.{◌then◌, fails_here, fails_if, fails_at}
use Rattle.answer.proofs.Laws.Chain.{failed_not_passed}

-- A refusal by the check has a number with the property.
pub record Numbered (Is : ℕ → Type 0) (c : Check) : Type 0 where
  pub each : (refusal : Refusal) → c ≡ Err refusal → Is (reason_number refusal.reason)

-- Any number but k.
abbrev pub Other : ℕ → ℕ → Type 0
Other k number = number ≡ k → ⊥

-- ---- checks of any kind
module _ {Is : ℕ → Type 0} where
  pub passed_numbered : Numbered Is (Ok tt)
  passed_numbered = record { each = λ refusal e. failed_not_passed (sym e) }

  pub failed_numbered : {refusal : Refusal} → Is (reason_number refusal.reason) → Numbered Is (Err refusal)
  failed_numbered h = record { each = λ r e. subst (λ r. Is (reason_number r.reason)) (same e) h }
    where
      same : {q r : Refusal} → ◌≡◌ {A = Check} (Err q) (Err r) → q ≡ r
      same e = cc

  -- the second check counts only where the first has passed
  pub then_numbered : {c d : Check} → Numbered Is c → (c ≡ Ok tt → Numbered Is d) → Numbered Is (c then d)
  then_numbered {c} {d} = go c
    where
      go : (c : Check) → Numbered Is c → (c ≡ Ok tt → Numbered Is d) → Numbered Is (c then d)
      go (Ok unit) x y = y refl
      go (Err refusal) x y = x

  infixr 30 ◌both◌
  pub ◌both◌ : {c d : Check} → Numbered Is c → Numbered Is d → Numbered Is (c then d)
  x both y = then_numbered x (λ e. y)

  pub here_numbered : (reason : Reason) (place : ℕ) (bad : Bool) → Is (reason_number reason) →
      Numbered Is (fails_here reason place bad)
  here_numbered reason place true h = failed_numbered h
  here_numbered reason place false h = passed_numbered

  pub if_numbered : (reason : Reason) (bad : Bool) → Is (reason_number reason) → Numbered Is (fails_if reason bad)
  if_numbered reason bad h = here_numbered reason 0 bad h

  pub at_numbered : (reason : Reason) (found : Option ℕ) → Is (reason_number reason) → Numbered Is (fails_at reason found)
  at_numbered reason None h = passed_numbered
  at_numbered reason (Some place) h = failed_numbered h

  -- a check that is made only where a test holds, or only where it fails
  pub where_numbered : {c : Check} (t : Bool) → Numbered Is c → Numbered Is (cond t c (Ok tt))
  where_numbered true h = h
  where_numbered false h = passed_numbered

  pub unless_numbered : {c : Check} (t : Bool) → Numbered Is c → Numbered Is (cond t (Ok tt) c)
  unless_numbered true h = passed_numbered
  unless_numbered false h = h

  pub after_numbered : (c : Check) (a : Answer) → Numbered Is c → Is (number_of a) → Is (number_of (answer_after c a))
  after_numbered (Ok unit) a x y = y
  after_numbered (Err refusal) a x y = x.each refusal refl

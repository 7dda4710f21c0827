-- Chains of checks: the first that fails decides. Defined, in order: check_number_of, check_place_of (the one meaning of
-- `Check`); _then_, is_passed, fails_here, fails_if, fails_at.
use Rattle.std.specs.Prelude.{Bool, true, false, cond, ℕ, Option, Some, None, Ok, Err}
use Rattle.answer.specs.declared.Reason.{Reason}
use Rattle.answer.specs.Refusal.{Check, reason_number, fails}

-- The number and the place of a refusal; 0 and 0 where nothing is refused.
abbrev pub check_number_of : Check → ℕ
check_number_of (Ok passed) = 0
check_number_of (Err refusal) = reason_number refusal.reason

abbrev pub check_place_of : Check → ℕ
check_place_of (Ok passed) = 0
check_place_of (Err refusal) = refusal.place

-- The first check that fails decides.
infixr 30 ◌then◌
abbrev pub ◌then◌ : Check → Check → Check
Ok unit then next = next
Err refusal then next = Err refusal

abbrev pub is_passed : Check → Bool
is_passed (Ok passed) = true
is_passed (Err refusal) = false

-- A check of one thing, with its place or with place 0, and of a list, with the lowest place.
abbrev pub fails_here : Reason → ℕ → Bool → Check
fails_here reason place bad = cond bad (fails reason place) (Ok tt)

abbrev pub fails_if : Reason → Bool → Check
fails_if reason bad = fails_here reason 0 bad

abbrev pub fails_at : Reason → Option ℕ → Check
fails_at reason None = Ok tt
fails_at reason (Some place) = fails reason place

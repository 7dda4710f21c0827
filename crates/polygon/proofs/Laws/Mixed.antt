-- 28, and nothing else that has this number (document 02, P8). Proved, in order: mixed_after (28 after some checks,
-- where what follows has another number), list_other, accept_other.
use mathlib.Core.Path.{◌≡◌, refl}
use mathlib.Core.Bool.{Bool, true, false}
use mathlib.Core.List.{List}
use Prim.Native.Nat.{ℕ}
use native.Mathlib.Omega.{arith}
use lib.IntN.{ℤ}
use Rattle.sphere.specs.declared.point.Point.{Point}
use Rattle.std.specs.declared.result.Result.TheVariants.{Ok, Err}
use Rattle.answer.specs.declared.Reason.TheVariants.{OtherGrid}
use Rattle.answer.specs.Refusal.{Answer}
use Rattle.answer.specs.Refusal.{Check}
use Rattle.answer.specs.Answer.{number_of, answer_after}
use Rattle.answer.specs.Chain.{◌then◌, fails_if}
use Rattle.polygon.specs.Checks.{list_check, accept_check}
use Rattle.polygon.specs.GridClaims.{Mixed}
use Rattle.answer.proofs.Laws.Chain.{failed_not_passed}
use Rattle.answer.proofs.Laws.Numbers.{Numbered, Other}
use Rattle.polygon.proofs.Laws.Numbers.{list_numbered, accept_numbered}

pub mixed_after : (before : Check) (mixed : Bool) (answer : Answer) →
    Numbered (Other 28) before → Other 28 (number_of answer) →
    Mixed (answer_after (before then fails_if OtherGrid mixed) answer) before mixed
mixed_after (Ok unit) true answer x y = record { refused→mixed = λ e. (refl, refl); mixed→refused = λ e f. refl }
mixed_after (Ok unit) false answer x y = record {
  refused→mixed = λ e. absurd (y e);
  mixed→refused = λ e f. absurd (let z : ◌≡◌ {A = ℕ} 0 1 = cc in omega arith);
}
mixed_after (Err refusal) mixed answer x y = record {
  refused→mixed = λ e. absurd (x.each refusal refl e);
  mixed→refused = λ e f. failed_not_passed e;
}

pub list_other : (vs : List ℤ) → Numbered (Other 28) (list_check vs)
list_other vs = list_numbered (Other 28) 0 vs (λ e. omega arith)

pub accept_other : (limit : ℕ) (vs : List ℤ) (X : Point) → Numbered (Other 28) (accept_check limit vs X)
accept_other limit vs = accept_numbered (Other 28) limit vs (list_other vs) (λ n l m e. omega (arith, m, e))

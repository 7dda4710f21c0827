-- Counts and searches over the numbers from i on. Defined: Some (a number at which the test holds). Proved, in order:
-- first_same, count_same, sum_same (term by term); count_some, count_zero; odd_some.
use mathlib.Core.Path.{◌≡◌, refl, sym, ◌∙◌, ap, ap₂, subst}
use mathlib.Core.Logic.{⊎_elim}
use mathlib.Core.Bool.{Bool, true, false, cond, true≢false}
use Prim.Native.Nat.{ℕ, zero, suc, ◌+◌, ◌%◌, ◌≤◌, ◌<◌}
use native.Mathlib.Omega.{arith}
use native.Mathlib.Nat.{eq-or-lt_of_le}
use lib.Dec.{eqb}
use lib.IntN.{ℤ, ◌+ℤ◌}
use Rattle.answer.specs.Search.{first_from, count_from, sum_from}
use Rattle.answer.proofs.Laws.First.{Each, each_first, each_rest}

-- ---- term by term
module _ (s t : ℕ → Bool) where
  pub first_same : (i k : ℕ) → Each (λ j. s j ≡ t j) i k → first_from s i k ≡ first_from t i k
  unfolding first_from
  first_same i zero all = refl
  first_same i (suc k) all =
      rw (each_first (λ j. s j ≡ t j) i k all, first_same (suc i) k (each_rest (λ j. s j ≡ t j) i k all))

  pub count_same : (i k : ℕ) → Each (λ j. s j ≡ t j) i k → count_from s i k ≡ count_from t i k
  unfolding count_from
  count_same i zero all = refl
  count_same i (suc k) all =
      rw (each_first (λ j. s j ≡ t j) i k all, count_same (suc i) k (each_rest (λ j. s j ≡ t j) i k all))

pub sum_same : (f g : ℕ → ℤ) (i k : ℕ) → Each (λ j. f j ≡ g j) i k → sum_from f i k ≡ sum_from g i k
unfolding sum_from
sum_same f g i zero all = refl
sum_same f g i (suc k) all =
    ap₂ ◌+ℤ◌ (each_first (λ j. f j ≡ g j) i k all) (sum_same f g (suc i) k (each_rest (λ j. f j ≡ g j) i k all))

-- ---- a count that is 0 or not
pub record Some (test : ℕ → Bool) (i k : ℕ) : Type 0 where
  pub place : ℕ
  pub from : i ≤ place
  pub below : place < i + k
  pub holds : test place ≡ true

module _ (test : ℕ → Bool) where
  pub count_some : (i k : ℕ) → (count_from test i k ≡ 0 → ⊥) → Some test i k
  unfolding count_from
  count_some i zero h = absurd (h refl)
  count_some i (suc k) h = go (test i) refl h (count_some (suc i) k)
    where
      go : (t : Bool) → test i ≡ t → (cond t (suc (count_from test (suc i) k)) (count_from test (suc i) k) ≡ 0 → ⊥) →
          ((count_from test (suc i) k ≡ 0 → ⊥) → Some test (suc i) k) → Some test i (suc k)
      go true e h rest = record { place = i; from = omega arith; below = omega arith; holds = e }
      go false e h rest = let r = rest h in
          record { place = r.place; from = omega (arith, r.from); below = omega (arith, r.below); holds = r.holds }

  pub count_zero : (i k : ℕ) → count_from test i k ≡ 0 → Each (λ j. test j ≡ false) i k
  unfolding count_from
  count_zero i zero h j from below = absurd (omega arith)
  count_zero i (suc k) h j from below = go (test i) refl h (count_zero (suc i) k)
    where
      one-zero : (n : ℕ) → suc n ≡ 0 → ⊥
      one-zero n e = omega arith

      go : (t : Bool) → test i ≡ t → cond t (suc (count_from test (suc i) k)) (count_from test (suc i) k) ≡ 0 →
          (count_from test (suc i) k ≡ 0 → Each (λ j. test j ≡ false) (suc i) k) → test j ≡ false
      go true e h rest = absurd (one-zero _ h)
      go false e h rest = ⊎_elim (λ q. subst (λ j. test j ≡ false) q e) (λ more. rest h j more (omega arith))
          (eq-or-lt_of_le from)

  -- an odd count is not 0
  pub odd_some : (i k : ℕ) → eqb (count_from test i k % 2) 1 ≡ true → Some test i k
  odd_some i k e = count_some i k (λ h. true≢false (sym e ∙ ap (λ n. eqb (n % 2) 1) h))

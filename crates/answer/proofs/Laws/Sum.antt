-- Sums over the numbers from i on. Proved, in order: sum_last, sum_ring (the terms in another order: m - 1 down to 0,
-- then m), sum-neg; count_sum (a count is a sum), count_ring; sum_odd (terms of size 1 where the test holds, and 0
-- elsewhere: the sum is odd exactly when the count is).
use mathlib.Core.Path.{◌≡◌, refl, sym, ◌∙◌, ap, ap₂}
use mathlib.Core.Bool.{Bool, true, false, not, cond}
use Prim.Native.Nat.{ℕ, zero, suc, ◌+◌, ◌%◌}
use native.Mathlib.Omega.{arith}
use lib.IntN.{ℤ, pos, negsuc, neg_ℤ, nat_abs, suc_ℤ, pred_ℤ, ◌+ℤ◌, +ℤ_idl, +ℤ_comm, +ℤ_assoc, +ℤ_one, -ℤ_one, neg_ℤ-+ℤ}
use lib.IntN.{pos-+ℤ-pos}
use Rattle.integers.specs.Sign.{Sign, negative, nought, positive, is_zero, unit_of}
use Rattle.answer.specs.Search.{count_from, sum_from}

module _ (f : ℕ → ℤ) where
  pub sum_last : (i k : ℕ) → sum_from f i (suc k) ≡ sum_from f i k +ℤ f (i + k)
  unfolding sum_from
  sum_last i zero = +ℤ_comm (f i) (pos 0) ∙ ap (λ j. pos 0 +ℤ f j) here
    where
      here : i ≡ i + 0
      here = omega arith
  sum_last i (suc k) =
      ap (λ s. f i +ℤ s) (sum_last (suc i) k) ∙ sym (+ℤ_assoc (f i) (sum_from f (suc i) k) (f (suc i + k)))
      ∙ ap (λ j. f i +ℤ sum_from f (suc i) k +ℤ f j) there
    where
      there : suc i + k ≡ i + suc k
      there = omega arith

  pub sum-neg : (i k : ℕ) → sum_from (λ j. neg_ℤ (f j)) i k ≡ neg_ℤ (sum_from f i k)
  unfolding sum_from
  sum-neg i zero = refl
  sum-neg i (suc k) = ap (λ s. neg_ℤ (f i) +ℤ s) (sum-neg (suc i) k) ∙ sym (neg_ℤ-+ℤ (f i) (sum_from f (suc i) k))

-- ---- another order
module _ (f g : ℕ → ℤ) where
  sum_mirror : (i k : ℕ) → ((a b : ℕ) → a + suc b ≡ k → f (i + a) ≡ g b) → sum_from f i k ≡ sum_from g 0 k
  unfolding sum_from
  sum_mirror i zero h = refl
  sum_mirror i (suc k) h =
      ap₂ ◌+ℤ◌ (ap f here ∙ h 0 k (omega arith)) (sum_mirror (suc i) k rest)
      ∙ +ℤ_comm (g k) (sum_from g 0 k) ∙ ap (λ j. sum_from g 0 k +ℤ g j) low ∙ sym (sum_last g 0 k)
    where
      here : i ≡ i + 0
      here = omega arith

      low : k ≡ 0 + k
      low = omega arith

      rest : (a b : ℕ) → a + suc b ≡ k → f (suc i + a) ≡ g b
      rest a b e = let next : suc i + a ≡ i + suc a = omega arith in ap f next ∙ h (suc a) b (omega arith)

  pub sum_ring : (m : ℕ) → ((a b : ℕ) → a + suc b ≡ m → f a ≡ g b) → f m ≡ g m →
      sum_from f 0 (suc m) ≡ sum_from g 0 (suc m)
  sum_ring m h e =
      sum_last f 0 m
      ∙ ap₂ ◌+ℤ◌ (sum_mirror 0 m (λ a b d. ap f (low a) ∙ h a b d)) (ap f (low m) ∙ e ∙ ap g (sym (low m)))
      ∙ sym (sum_last g 0 m)
    where
      low : (j : ℕ) → 0 + j ≡ j
      low j = omega arith

-- ---- counts
abbrev ones : (ℕ → Bool) → ℕ → ℤ
ones test i = pos (cond (test i) 1 0)

pub count_sum : (test : ℕ → Bool) (i k : ℕ) → pos (count_from test i k) ≡ sum_from (ones test) i k
unfolding count_from sum_from
count_sum test i zero = refl
count_sum test i (suc k) =
    go (test i) (count_from test (suc i) k) ∙ ap (λ s. ones test i +ℤ s) (count_sum test (suc i) k)
  where
    go : (t : Bool) (n : ℕ) → pos (cond t (suc n) n) ≡ pos (cond t 1 0) +ℤ pos n
    go true n = sym (pos-+ℤ-pos 1 n ∙ ap pos one_more)
      where
        one_more : 1 + n ≡ suc n
        one_more = omega arith
    go false n = sym (+ℤ_idl (pos n))

pub count_ring : (s t : ℕ → Bool) (m : ℕ) → ((a b : ℕ) → a + suc b ≡ m → s a ≡ t b) → s m ≡ t m →
    count_from s 0 (suc m) ≡ count_from t 0 (suc m)
count_ring s t m h e =
    let same : pos (count_from s 0 (suc m)) ≡ pos (count_from t 0 (suc m)) =
    count_sum s 0 (suc m)
    ∙ sum_ring (ones s) (ones t) m (λ a b d. ap one (h a b d)) (ap one e)
    ∙ sym (count_sum t 0 (suc m)) in
    ap nat_abs same
  where
    one : Bool → ℤ
    one t = pos (cond t 1 0)

-- ---- parity
suc_odd : (k : ℤ) → nat_abs (suc_ℤ k) % 2 ≡ suc (nat_abs k) % 2
suc_odd (pos n) = refl
suc_odd (negsuc zero) = refl
suc_odd (negsuc (suc n)) = omega arith

pred_odd : (k : ℤ) → nat_abs (pred_ℤ k) % 2 ≡ suc (nat_abs k) % 2
pred_odd (pos zero) = refl
pred_odd (pos (suc n)) = omega arith
pred_odd (negsuc n) = refl

both_odd : (k : ℤ) (n : ℕ) → nat_abs k % 2 ≡ n % 2 → suc (nat_abs k) % 2 ≡ suc n % 2
both_odd k n h = omega arith

-- one term more
step_odd : (s : Sign) (k : ℤ) (n : ℕ) → nat_abs k % 2 ≡ n % 2 →
    nat_abs (unit_of s +ℤ k) % 2 ≡ cond (not (is_zero s)) (suc n) n % 2
step_odd negative k n h = ap (λ z. nat_abs z % 2) (+ℤ_comm (negsuc 0) k ∙ -ℤ_one k) ∙ pred_odd k ∙ both_odd k n h
step_odd nought k n h = ap (λ z. nat_abs z % 2) (+ℤ_idl k) ∙ h
step_odd positive k n h = ap (λ z. nat_abs z % 2) (+ℤ_comm (pos 1) k ∙ +ℤ_one k) ∙ suc_odd k ∙ both_odd k n h

pub sum_odd : (way : ℕ → Sign) (i k : ℕ) →
    nat_abs (sum_from (λ j. unit_of (way j)) i k) % 2 ≡ count_from (λ j. not (is_zero (way j))) i k % 2
unfolding sum_from count_from
sum_odd way i zero = refl
sum_odd way i (suc k) = step_odd (way i) _ _ (sum_odd way (suc i) k)

-- How far a direction is into its quarter turn: b of d = a + b. Proved, in order: part_most, part_within, part_full,
-- part_none (the ends); two_steps (the quotient in two steps); products; part_less (parts that differ), part_across
-- (directions of neighbouring quarters).
use mathlib.Core.Path.{◌≡◌, refl, sym, ap, ◌∙◌}
use Prim.Native.Nat.{ℕ, zero, suc, ◌+◌, ◌*◌, ◌/◌, ◌%◌, ◌≤◌, ◌<◌}
use native.Mathlib.Nat.{div-lt_iff_lt-mul, div-le_of_le-mul, div-eq_of_eq-mul_left, zero-div, div-add-mod', mod-lt, mul-add-div_right}
use native.Mathlib.Nat.{div-mul-le_self, mul-le-mul_right, mul-lt-mul_of_pos_right}
use native.Mathlib.Omega.{arith}
use Rattle.azimuths.specs.Azimuth.{part_of}

module _ (a b d : ℕ) (whole : d ≡ a + b) where
  pub part_most : part_of b d ≤ 16384
  part_most = div-le_of_le-mul d (omega arith)

  pub part_within : 0 < a → part_of b d < 16384
  part_within h = (div-lt_iff_lt-mul {k = d} {x = b * 16384} {y = 16384} (omega arith)).1 (omega arith)

  pub part_full : 0 < d → a ≡ 0 → part_of b d ≡ 16384
  part_full h e = div-eq_of_eq-mul_left h (omega arith)

  pub part_none : b ≡ 0 → part_of b d ≡ 0
  part_none e = rw e (zero-div d)

pub two_steps : (b d : ℕ) → 0 < d → b * 512 / d * 32 + b * 512 % d * 32 / d ≡ b * 16384 / d
two_steps b d some =
    sym (mul-add-div_right some (b * 512 / d * 32) (b * 512 % d * 32))
    ∙ ap (λ k. k / d) (omega (arith, div-add-mod' (b * 512) d))

-- Of two directions each has a number, and no number of one is missing where the other one's is.
products : (a b a' b' : ℕ) → (a ≡ 0 → b' ≡ 0 → ⊥) → (b ≡ 0 → a' ≡ 0 → ⊥) → 0 < a + b → 0 < a' + b' →
    0 < a * a' + b * b'
products (suc a) b (suc a') b' h k s t = omega arith
products (suc a) zero zero b' h k s t = absurd (k refl refl)
products (suc a) (suc b) zero zero h k s t = absurd (omega arith)
products (suc a) (suc b) zero (suc b') h k s t = omega arith
products zero b a' zero h k s t = absurd (h refl refl)
products zero zero a' (suc b') h k s t = absurd (omega arith)
products zero (suc b) a' (suc b') h k s t = omega arith

module _ (a b d a' b' d' : ℕ) (whole : d ≡ a + b) (whole' : d' ≡ a' + b') (some : 0 < d) (some' : 0 < d') where
  -- the second part is at least one more: both sides are multiplied by the sums
  pub part_less : part_of b d < part_of b' d' → b * a' < a * b'
  part_less h =
      let n = part_of b' d' in
      let up : b * 16384 < n * d =
      omega (arith, div-add-mod' (b * 16384) d, mod-lt (b * 16384) some, mul-le-mul_right d h) in
      let far : b * 16384 * d' < n * d * d' = mul-lt-mul_of_pos_right up some' in
      let down : n * d' * d ≤ b' * 16384 * d = mul-le-mul_right d (div-mul-le_self (b' * 16384) d') in
      omega (arith, ap (λ k. b * k) whole', ap (λ k. b' * k) whole)

  -- else one of the two is at its quarter's end, and the other at its start
  pub part_across : (part_of b d ≡ 16384 → part_of b' d' ≡ 0 → ⊥) → (part_of b d ≡ 0 → part_of b' d' ≡ 16384 → ⊥) →
      0 < a * a' + b * b'
  part_across h k = products a b a' b'
      (λ e f. h (part_full a b d whole some e) (part_none a' b' d' whole' f))
      (λ e f. k (part_none a b d whole e) (part_full a' b' d' whole' some' f))
      (omega arith) (omega arith)

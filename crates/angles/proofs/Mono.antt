-- The series falls, and y times it rises, as y grows up to 3.
use Prim.Native.Nat.{ℕ, zero, suc, ◌+◌, ◌-◌, ◌*◌, ◌≤◌}
use native.Mathlib.Nat.{le_refl, mul-le-mul_right, mul-le-mul_left, mul-le-mul, mul-sub}
use native.Mathlib.Omega.{arith}
use Rattle.angles.specs.Series.{den, num}
use Rattle.angles.proofs.Near.{num_le, six}

cut : (a b c d : ℕ) → a + d ≤ c + b → a - b ≤ c - d
cut a b c d h = omega arith

-- y h rises, where h is one less y times g, and g falls
rise : (p u q c g g' b : ℕ) → p + u ≤ 3 * q → 6 ≤ c → g' ≤ g → g' ≤ b → p * (q * c * b - p * g) ≤ (p + u) *
    (q * c * b - (p + u) * g')
rise p u q c g g' b small C f l =
    let d = q * c * b in
    let wide : p + (p + u) ≤ 6 * q = omega arith in
    let x : (p + (p + u)) * g' ≤ 6 * q * b = mul-le-mul wide l in
    let y : 6 * (q * b) ≤ c * (q * b) = mul-le-mul_right (q * b) C in
    let room : (p + (p + u)) * g' ≤ q * c * b = omega arith in
    let z : u * ((p + (p + u)) * g') ≤ u * (q * c * b) = mul-le-mul_left u room in
    let v : p * p * g' ≤ p * p * g = mul-le-mul_left (p * p) f in
    rw (mul-sub p d (p * g), mul-sub (p + u) d ((p + u) * g'))
    (cut (p * d) (p * (p * g)) ((p + u) * d) ((p + u) * ((p + u) * g')) (omega (arith, z, v)))

module _ (p u q : ℕ) (small : p + u ≤ 3 * q) where
  pub both : (n f : ℕ) → 2 ≤ f → (num (p + u) q f n ≤ num p q f n) × (p * num p q f n ≤ (p + u) * num (p + u) q f n)
  both zero f h = (le_refl 1, omega arith)
  both (suc n) f h =
      let g = suc (suc f) in
      let i = both n g (omega arith) in (
        cut (den q f (suc n)) ((p + u) * num (p + u) q g n) (den q f (suc n)) (p * num p q g n) (omega (arith, i.1)),
        rise p u q (f * suc f) (num p q g n) (num (p + u) q g n) (den q g n) small (six f h) i.0
            (num_le (p + u) q g n),
      )

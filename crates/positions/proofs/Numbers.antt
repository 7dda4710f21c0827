-- The numbers of what is being read, as a proof meets them. Proved, in order: lon_of (that the longitude fits its
-- type), called2 (what a call says of two numbers held as bits), difference_same, digit_range, digit_no_end.
use mathlib.Core.Path.{◌≡◌, sym, ap₂, ◌∙◌}
use mathlib.Core.Bool.{Bool, true, false}
use Prim.Native.Nat.{ℕ, ◌^◌, ◌≤◌, ◌<◌}
use native.Mathlib.Omega.{arith}
use borrow.Author.Tests.{leb-true, ne_eqb}
use lib.Dec.{leb}
use lib.IntN.{ℤ, ◌-ℤ◌}
use lib.Signed.{mag}
use mir.Syntax.{w32, w64}
use mir.Val.{SFits, hbits, to_z, of_z}
use mir.ValLaws.{to_z-of_z}
use Rattle.integers.proofs.Compare.{result_same}
use Rattle.answer.proofs.Laws.Chain.{both_true}
use Rattle.positions.specs.declared.number.Pending.{Pending}
use Rattle.positions.specs.Number.{is_digit, is_end}

pub lon_of : (p : Pending) {A B C D : Type 0} → A × (B × ((C × (mag p.lon < 2 ^ hbits w32)) × D)) → SFits w32
    p.lon
lon_of p told = record { sfits = told.1.1.0.1 }

pub called2 : (f : ℤ → ℤ → Bool) (y z : ℤ) → SFits w32 y → SFits w32 z → {t u : Bool} →
    t ≡ f (to_z w32 (of_z w32 y)) (to_z w32 (of_z w32 z)) → t ≡ u → f y z ≡ u
called2 f y z g h answered test =
    (λ i. f (sym (to_z-of_z w32 y g) i) (sym (to_z-of_z w32 z h) i)) ∙ sym answered ∙ test

-- z is the difference of two numbers, as a call gave it.
pub difference_same : (a b z : ℤ) → SFits w32 a → SFits w32 b → mag z < 2 ^ hbits w64 →
    z ≡ to_z w32 (of_z w32 a) -ℤ to_z w32 (of_z w32 b) → to_z w64 (of_z w64 z) ≡ a -ℤ b
difference_same a b z f g ok e = result_same w64 z ok (e ∙ ap₂ ◌-ℤ◌ (to_z-of_z w32 a f) (to_z-of_z w32 b g))

pub digit_range : (b : ℕ) → is_digit b ≡ true → (48 ≤ b) × (b ≤ 57)
unfolding is_digit
digit_range b e =
    let h = both_true (leb 48 b) (leb b 57) e in
    (leb-true 48 b h.0, leb-true b 57 h.1)

pub digit_no_end : (p : Pending) (b : ℕ) → is_digit b ≡ true → is_end p b ≡ false
unfolding is_end
digit_no_end p b e = rw (ne_eqb b 93 (λ same. apart b (digit_range b e).1 same))
  where
    apart : (b : ℕ) → b ≤ 57 → b ≡ 93 → ⊥
    apart b h same = omega arith

-- Numbers of positions and of points, as a proof meets them. Proved, in order: words_of, numbers_of_lem (that the numbers
-- of a position and of a point fit their type), widened, called (what a call says of a wide number), difference;
-- negative_size, other_size (the casts of a size), in_range, numbers_same, handed (a position that is made of two
-- locals).
use mathlib.Core.Path.{◌≡◌, refl, sym, ap, ◌∙◌}
use mathlib.Core.Bool.{Bool, true, false, ◌||◌, true≢false}
use Prim.Native.Nat.{ℕ, ◌^◌, ◌≤◌, ◌<◌}
use Prim.{Unit}
use native.Mathlib.Omega.{arith}
use borrow.Author.Tests.{ltb-true, ltb-false}
use lib.Dec.{T, ltb, lit<}
use lib.IntN.{ℤ, pos, negsuc, nat_abs, ◌-ℤ◌}
use lib.Signed.{mag, lt_z, non_neg}
use mir.Syntax.{w32, w64}
use mir.Val.{Fits, SFits, hbits, to_z, of_z}
use mir.ValLaws.{to_z-of_z}
use Rattle.integers.proofs.Compare.{result_same}
use Rattle.integers.proofs.Size.{known, minus, fits}
use Rattle.sphere.specs.Point.{is_far}
use Rattle.angles.specs.declared.point.Position.{Position}
use Rattle.angles.specs.declared.point.GridNumbers.{GridNumbers}
use Rattle.angles.specs.Point.{is_outside, position_at}

abbrev Bounded : ℤ → Type 0
Bounded z = mag z < 2 ^ hbits w32

pub record Words (p : Position) : Type 0 where
  pub at_lon : SFits w32 p.lon
  pub at_lat : SFits w32 p.lat

pub words_of : (p : Position) {A B : Type 0} →
    (A × Bounded p.lon) × ((B × Bounded p.lat) × Unit {0}) → Words p
words_of p told = record { at_lon = record { sfits = told.0.1 }; at_lat = record { sfits = told.1.0.1 } }

pub record NumberWords (v : GridNumbers) : Type 0 where
  pub at_x : SFits w32 v.x
  pub at_y : SFits w32 v.y
  pub at_z : SFits w32 v.z

pub numbers_of_lem : (v : GridNumbers) {A B C : Type 0} →
    (A × Bounded v.x) × ((B × Bounded v.y) × ((C × Bounded v.z) × Unit {0})) → NumberWords v
numbers_of_lem v told = record {
  at_x = record { sfits = told.0.1 };
  at_y = record { sfits = told.1.0.1 };
  at_z = record { sfits = told.1.1.0.1 };
}

-- z is the number k, made wide.
pub widened : (k z : ℤ) → SFits w32 k → mag z < 2 ^ hbits w64 → z ≡ to_z w32 (of_z w32 k) → to_z w64 (of_z w64 z) ≡ k
widened k z f ok e = result_same w64 z ok (e ∙ to_z-of_z w32 k f)

pub called : (f : ℤ → Bool) (k z : ℤ) → to_z w64 (of_z w64 z) ≡ k → {t u : Bool} →
    t ≡ f (to_z w64 (of_z w64 z)) → t ≡ u → f k ≡ u
called f k z same answered test = ap f (sym same) ∙ sym answered ∙ test

size_of : (z : ℤ) → SFits w32 z → nat_abs z ≤ 2147483648
size_of (pos n) h = let k : n < 2147483648 = h.sfits in omega arith
size_of (negsuc n) h = let k : n < 2147483648 = h.sfits in omega arith

pub difference : (a b : ℤ) → SFits w32 a → SFits w32 b → SFits w64 (a -ℤ b)
difference a b f g = fits (minus (known {z = a} (size_of a f)) (known {z = b} (size_of b g))) (lit< tt)

-- ---- sizes

pub record SizeCast (z : ℤ) (k : ℤ) : Type 0 where
  pub sign : T (non_neg z)
  pub fits : Fits w64 (nat_abs z)
  pub same : nat_abs z ≡ nat_abs k

none : (n : ℕ) → ltb n 0 ≡ true → ⊥
none n e = let h = ltb-true n 0 e in omega arith

pub negative_size : (k : ℤ) → SFits w32 k → lt_z k (pos 0) ≡ true → SizeCast (pos 0 -ℤ k) k
negative_size (pos n) f e = absurd (none n e)
negative_size (negsuc n) f e =
    let h : n < 2147483648 = f.sfits in
    record { sign = tt; fits = record { fits = omega arith }; same = omega arith }

pub other_size : (k : ℤ) → SFits w32 k → lt_z k (pos 0) ≡ false → SizeCast k k
other_size (pos n) f e =
    let h : n < 2147483648 = f.sfits in record { sign = tt; fits = record { fits = omega arith }; same = refl }
other_size (negsuc n) f e = absurd (true≢false e)

-- ---- positions

pub record InRange (p : Position) : Type 0 where
  pub lon : nat_abs p.lon ≤ 1800000000
  pub lat : nat_abs p.lat ≤ 900000000

pub neither : (a b : Bool) → (a || b) ≡ false → (a ≡ false) × (b ≡ false)
neither true b e = absurd (true≢false e)
neither false b e = (refl, e)

pub in_range : (p : Position) → is_outside p ≡ false → InRange p
unfolding is_outside is_far
in_range p e =
    let h = neither (ltb 1800000000 (nat_abs p.lon)) (ltb 900000000 (nat_abs p.lat)) e in
    record { lon = ltb-false 1800000000 _ h.0; lat = ltb-false 900000000 _ h.1 }

pub numbers_same : (v : GridNumbers) {x y z : ℤ} → v.x ≡ x → v.y ≡ y → v.z ≡ z → v ≡ record { x = x; y = y; z = z }
numbers_same v a b c = λ i. record { x = a i; y = b i; z = c i }

pub handed : (lon lat : ℤ) → SFits w32 lon → SFits w32 lat →
    position_at (to_z w32 (of_z w32 lon)) (to_z w32 (of_z w32 lat)) ≡ position_at lon lat
handed lon lat f g = λ i. position_at (to_z-of_z w32 lon f i) (to_z-of_z w32 lat g i)

-- Signed numbers where the code crosses zero.
-- Proved, in order: widens, narrows, held; signed_word, word_signed (the library's casts are two's complement).
use mathlib.Core.Path.{◌≡◌, refl, ap, ◌∙◌}
use mathlib.Core.Bool.{Bool, true, false, cond}
use Prim.Native.Nat.{ℕ, suc, ◌-◌, ◌^◌, ◌<◌}
use native.Mathlib.Omega.{arith}
use lib.Dec.{ltb}
use lib.IntN.{ℤ, pos, negsuc}
use lib.Signed.{mag}
use mir.Syntax.{Width, w32, w64}
use mir.Val.{SFits, to_z, of_z, sel, hbits}
use mir.ValLaws.{to_z-of_z}
use Rattle.sphere.specs.Point.{Fits}
use Rattle.big_endian.specs.Bytes.{signed, word_of}

-- What fits 32 bits fits 64, and what is below 2^31 in size fits 32.
pub widens : {z : ℤ} → SFits w32 z → SFits w64 z
widens f = let h = f.sfits in record { sfits = omega arith }

pub narrows : (z : ℤ) → Fits 2147483647 z → SFits w32 z
narrows (pos n) f = let h = f.within in record { sfits = omega arith }
narrows (negsuc n) f = let h = f.within in record { sfits = omega arith }

-- A signed local holds bits. What is read back from them is what a call ensures of its result.
pub held : (w : Width) {z y : ℤ} → mag z < 2 ^ hbits w → z ≡ y → to_z w (of_z w z) ≡ y
held w {z} h e = to_z-of_z w z (record { sfits = h }) ∙ e

-- The library's casts are two's complement, as `signed` and `word_of` have it.
pub signed_word : (n : ℕ) → to_z w32 n ≡ signed n
unfolding signed
signed_word n = go (ltb n 2147483648)
  where
    same : 2 ^ 32 - suc n ≡ 4294967295 - n
    same = omega arith

    go : (b : Bool) → sel b (pos n) (negsuc (2 ^ 32 - suc n)) ≡ cond b (pos n) (negsuc (4294967295 - n))
    go true = refl
    go false = ap negsuc same

pub word_signed : (z : ℤ) → of_z w32 z ≡ word_of z
unfolding word_of
word_signed (pos n) = refl
word_signed (negsuc n) = omega arith

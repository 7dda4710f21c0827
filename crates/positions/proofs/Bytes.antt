-- That a list is of bytes, as a test that the checker computes. Defined: are_bytes. Proved: are_bytes_lem, bytes_tested (it is
-- AreBytes, of big_endian).
use mathlib.Core.Bool.{Bool, true, ◌&&◌}
use mathlib.Core.List.{List, [], ◌∷◌}
use Prim.Native.Nat.{ℕ, zero, suc}
use lib.Dec.{T, ltb, ltb→lt, lt→ltb, lit<}
use lib.Ieee.Fits.{and_i, and_l, and_r}
use Rattle.big_endian.specs.Bytes.{AreBytes}

abbrev pub are_bytes : List ℕ → Bool
are_bytes [] = true
are_bytes (b ∷ bs) = ltb b 256 && are_bytes bs

pub are_bytes_lem : (bs : List ℕ) → T (are_bytes bs) → AreBytes bs
are_bytes_lem [] t i = lit< tt
are_bytes_lem (b ∷ bs) t zero = ltb→lt b 256 (and_l (ltb b 256) (are_bytes bs) t)
are_bytes_lem (b ∷ bs) t (suc i) = are_bytes_lem bs (and_r (ltb b 256) (are_bytes bs) t) i

pub bytes_tested : (bs : List ℕ) → AreBytes bs → T (are_bytes bs)
bytes_tested [] are = tt
bytes_tested (b ∷ bs) are =
    and_i (ltb b 256) (are_bytes bs) (lt→ltb b 256 (are 0)) (bytes_tested bs (λ i. are (suc i)))

-- Document 02, P7: the first terms of the sine and the cosine as exact fractions. Defined, in order: den, num; nested
-- (the code's whole numbers).
use Rattle.std.specs.Prelude.{ℕ, zero, suc, ◌-◌, ◌*◌, ◌/◌}

-- The first n + 1 terms of 1 - y / (f (f + 1)) + y² / (f (f + 1) (f + 2) (f + 3)) - .., for y = p / q: each term is the
-- one before times -y / (g (g + 1)), with g two more each time. With f = 1 it is the cosine of x, for y = x²; with f =
-- 2 it is the sine of x, divided by x. The claim NothingCut says that no subtraction of `num` is cut at 0.
abbrev pub den : ℕ → ℕ → ℕ → ℕ
den q f zero = 1
den q f (suc n) = q * (f * suc f) * den q (suc (suc f)) n

abbrev pub num : ℕ → ℕ → ℕ → ℕ → ℕ
num p q f zero = 1
num p q f (suc n) = den q f (suc n) - p * num p q (suc (suc f)) n

-- The same in whole numbers, s standing for 1, and w for s times y.
abbrev pub nested : ℕ → ℕ → ℕ → ℕ → ℕ
nested s w f zero = s
nested s w f (suc n) = s - w * nested s w (suc (suc f)) n / (s * (f * suc f))

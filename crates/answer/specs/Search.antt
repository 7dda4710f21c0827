-- Searching, counting and summing over the numbers i, i + 1, .. i + k - 1. Defined, in order: first_from, count_from,
-- sum_from. They go up from i, as a loop does. Laws: proofs/Laws/Search.
use Rattle.std.specs.Prelude.{Bool, cond, ℕ, zero, suc, ℤ, pos, ◌+ℤ◌, Option, Some, None}

-- The lowest of k numbers from i on at which the test holds.
unfoldable pub first_from : (ℕ → Bool) → ℕ → ℕ → Option ℕ
first_from test i zero = None
first_from test i (suc k) = cond (test i) (Some i) (first_from test (suc i) k)

-- At how many of k numbers from i on the test holds.
unfoldable pub count_from : (ℕ → Bool) → ℕ → ℕ → ℕ
count_from test i zero = 0
count_from test i (suc k) = cond (test i) (suc (count_from test (suc i) k)) (count_from test (suc i) k)

-- The sum of k terms from i on.
unfoldable pub sum_from : (ℕ → ℤ) → ℕ → ℕ → ℤ
sum_from term i zero = pos 0
sum_from term i (suc k) = term i +ℤ sum_from term (suc i) k

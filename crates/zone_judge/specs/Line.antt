-- Document 01, the program: the line that it prints for an answer, in bytes.
-- Defined, in order: decimal_by, decimal, ended, line_of, result_line, lines_of. Laws: proofs/Lines. What the system does with the
-- bytes is not said anywhere. Assumes nothing.
use Rattle.std.specs.Prelude.{cond, List, [], ◌∷◌, ◌++◌, ℕ, zero, suc, ◌+◌, ◌*◌, ◌/◌, ◌%◌, ltb}
use Rattle.big_endian.specs.Bytes.{word_at}

-- The digits of n in ASCII, the most significant first and no zero in front, where n has at most k + 1 of them.
unfoldable pub decimal_by : ℕ → ℕ → List ℕ
decimal_by zero n = (48 + n % 10) ∷ []
decimal_by (suc k) n = cond (ltb n 10) ((48 + n) ∷ []) (decimal_by k (n / 10) ++ ((48 + n % 10) ∷ []))

-- A number has no more digits than it counts.
unfoldable pub decimal : ℕ → List ℕ
decimal n = decimal_by n n

-- A number's digits and the byte behind them.
abbrev pub ended : ℕ → ℕ → List ℕ
ended n after = decimal n ++ (after ∷ [])

-- Number, place and count, parted by single spaces, and the end of the line.
unfoldable pub line_of : ℕ → ℕ → ℕ → List ℕ
line_of number place count = ended number 32 ++ ended place 32 ++ ended count 10

-- The line of the twelve bytes of a feed's result, and the lines of the first n.
unfoldable pub result_line : List ℕ → ℕ → List ℕ
result_line results from = line_of (word_at results from) (word_at results (from + 4)) (word_at results (from + 8))

unfoldable pub lines_of : List ℕ → ℕ → List ℕ
lines_of results zero = []
lines_of results (suc n) = lines_of results n ++ result_line results (n * 12)

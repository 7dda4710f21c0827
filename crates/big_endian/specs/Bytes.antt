-- Document 01, 'The zone sheet': numbers in a list of bytes, big-endian, coordinates in two's complement.
-- Defined, in order: reading: byte_at, short_at, word_at, signed, int_at, point_at, ints_at; writing: short_bytes, word_bytes,
-- word_of, int_bytes, ints_bytes, numbers_of, point_bytes, rows_of; and AreBytes. A byte past the end of a list reads as 0. Laws:
-- proofs/Laws.
use Rattle.std.specs.Prelude.{cond, List, [], ◌∷◌, ◌++◌, ℕ, zero, suc, ◌+◌, ◌*◌, ◌/◌, ◌%◌, ◌-◌, ◌<◌, ltb, ℤ, pos, negsuc, get_or}
use Rattle.sphere.specs.declared.point.Point.{Point}

-- ---- reading

abbrev pub byte_at : List ℕ → ℕ → ℕ
byte_at b at = get_or b at 0

-- The two and the four bytes from `at` on, unsigned.
unfoldable pub short_at : List ℕ → ℕ → ℕ
short_at b at = byte_at b at * 256 + byte_at b (at + 1)

unfoldable pub word_at : List ℕ → ℕ → ℕ
word_at b at = byte_at b at * 16777216 + byte_at b (at + 1) * 65536 + byte_at b (at + 2) * 256 + byte_at b (at + 3)

-- A word as two's complement, and the number of four bytes.
unfoldable pub signed : ℕ → ℤ
signed n = cond (ltb n 2147483648) (pos n) (negsuc (4294967295 - n))

unfoldable pub int_at : List ℕ → ℕ → ℤ
int_at b at = signed (word_at b at)

-- Twelve bytes are a point.
unfoldable pub point_at : List ℕ → ℕ → Point
point_at b at = record { x = int_at b at; y = int_at b (at + 4); z = int_at b (at + 8) }

-- n numbers, from `at` on.
unfoldable pub ints_at : List ℕ → ℕ → ℕ → List ℤ
ints_at b at zero = []
ints_at b at (suc n) = int_at b at ∷ ints_at b (at + 4) n

-- ---- writing

unfoldable pub short_bytes : ℕ → List ℕ
short_bytes n = n / 256 % 256 ∷ n % 256 ∷ []

unfoldable pub word_bytes : ℕ → List ℕ
word_bytes n = n / 16777216 % 256 ∷ n / 65536 % 256 ∷ n / 256 % 256 ∷ n % 256 ∷ []

-- The word of a number in two's complement.
unfoldable pub word_of : ℤ → ℕ
word_of (pos n) = n
word_of (negsuc n) = 4294967295 - n

unfoldable pub int_bytes : ℤ → List ℕ
int_bytes z = word_bytes (word_of z)

unfoldable pub ints_bytes : List ℤ → List ℕ
ints_bytes [] = []
ints_bytes (z ∷ zs) = int_bytes z ++ ints_bytes zs

abbrev pub numbers_of : Point → List ℤ
numbers_of p = p.x ∷ p.y ∷ p.z ∷ []

abbrev pub point_bytes : Point → List ℕ
point_bytes p = ints_bytes (numbers_of p)

-- The first n rows of bytes, one behind the other.
unfoldable pub rows_of : (ℕ → List ℕ) → ℕ → List ℕ
rows_of row zero = []
rows_of row (suc n) = rows_of row n ++ row n

-- ---- what a lent slice of bytes is known to hold

abbrev pub AreBytes : List ℕ → Type 0
AreBytes b = (i : ℕ) → byte_at b i < 256

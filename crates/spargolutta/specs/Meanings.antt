-- What the numbers mean to a user: the texts of include/spargolutta.h and what a place is, in the order of its table.
-- Defined, in order: Row, unknown, rows, find_in, row_of; kind_of, text_of, front_of, text_to (the buffer after the call);
-- joined, start_in, letters, index_of, tabled, kind_table, start_table, size_table (for the code alone).
use Rattle.std.specs.Prelude.{cond, List, [], ◌∷◌, ◌++◌, ℕ, zero, suc, ◌+◌, eqb, ltb, length, take, drop}

-- A text is in ASCII. The kinds of a place: 0 none, 1 a side, 2 a vertex, 3 a byte, 4 the bytes needed, 5 a position,
-- 6 as the call says.
pub record Row : Type 0 where
  pub number : ℕ
  pub kind : ℕ
  pub text : List ℕ

abbrev row : ℕ → ℕ → List ℕ → Row
row number kind text = record { number = number; kind = kind; text = text }

-- Any other number: unknown number
abbrev pub unknown : List ℕ
unknown = 117 ∷ 110 ∷ 107 ∷ 110 ∷ 111 ∷ 119 ∷ 110 ∷ 32 ∷ 110 ∷ 117 ∷ 109 ∷ 98 ∷ 101 ∷ 114 ∷ []

unfoldable pub rows : List Row
rows =
    -- done
    row 0 6 (100 ∷ 111 ∷ 110 ∷ 101 ∷ []) ∷
    -- inside
    row 1 0 (105 ∷ 110 ∷ 115 ∷ 105 ∷ 100 ∷ 101 ∷ []) ∷
    -- outside
    row 2 0 (111 ∷ 117 ∷ 116 ∷ 115 ∷ 105 ∷ 100 ∷ 101 ∷ []) ∷
    -- boundary
    row 3 1 (98 ∷ 111 ∷ 117 ∷ 110 ∷ 100 ∷ 97 ∷ 114 ∷ 121 ∷ []) ∷
    -- list of a length not allowed
    row 10 0 (
    108 ∷ 105 ∷ 115 ∷ 116 ∷ 32 ∷ 111 ∷ 102 ∷ 32 ∷ 97 ∷ 32 ∷ 108 ∷ 101 ∷ 110 ∷ 103 ∷ 116 ∷ 104 ∷ 32 ∷ 110 ∷ 111 ∷
    116 ∷ 32 ∷ 97 ∷ 108 ∷ 108 ∷ 111 ∷ 119 ∷ 101 ∷ 100 ∷ []) ∷
    -- vertex beyond the grid
    row 11 2 (
    118 ∷ 101 ∷ 114 ∷ 116 ∷ 101 ∷ 120 ∷ 32 ∷ 98 ∷ 101 ∷ 121 ∷ 111 ∷ 110 ∷ 100 ∷ 32 ∷ 116 ∷ 104 ∷ 101 ∷ 32 ∷ 103 ∷
    114 ∷ 105 ∷ 100 ∷ []) ∷
    -- vertex all zero
    row 12 2 (118 ∷ 101 ∷ 114 ∷ 116 ∷ 101 ∷ 120 ∷ 32 ∷ 97 ∷ 108 ∷ 108 ∷ 32 ∷ 122 ∷ 101 ∷ 114 ∷ 111 ∷ []) ∷
    -- side's ends in the same direction
    row 13 1 (
    115 ∷ 105 ∷ 100 ∷ 101 ∷ 39 ∷ 115 ∷ 32 ∷ 101 ∷ 110 ∷ 100 ∷ 115 ∷ 32 ∷ 105 ∷ 110 ∷ 32 ∷ 116 ∷ 104 ∷ 101 ∷ 32 ∷
    115 ∷ 97 ∷ 109 ∷ 101 ∷ 32 ∷ 100 ∷ 105 ∷ 114 ∷ 101 ∷ 99 ∷ 116 ∷ 105 ∷ 111 ∷ 110 ∷ []) ∷
    -- side's ends opposite
    row 14 1 (
    115 ∷ 105 ∷ 100 ∷ 101 ∷ 39 ∷ 115 ∷ 32 ∷ 101 ∷ 110 ∷ 100 ∷ 115 ∷ 32 ∷ 111 ∷ 112 ∷ 112 ∷ 111 ∷ 115 ∷ 105 ∷ 116 ∷
    101 ∷ []) ∷
    -- known point beyond the grid or all zero
    row 15 0 (
    107 ∷ 110 ∷ 111 ∷ 119 ∷ 110 ∷ 32 ∷ 112 ∷ 111 ∷ 105 ∷ 110 ∷ 116 ∷ 32 ∷ 98 ∷ 101 ∷ 121 ∷ 111 ∷ 110 ∷ 100 ∷ 32 ∷
    116 ∷ 104 ∷ 101 ∷ 32 ∷ 103 ∷ 114 ∷ 105 ∷ 100 ∷ 32 ∷ 111 ∷ 114 ∷ 32 ∷ 97 ∷ 108 ∷ 108 ∷ 32 ∷ 122 ∷ 101 ∷ 114 ∷
    111 ∷ []) ∷
    -- known point on the great circle of a side
    row 16 1 (
    107 ∷ 110 ∷ 111 ∷ 119 ∷ 110 ∷ 32 ∷ 112 ∷ 111 ∷ 105 ∷ 110 ∷ 116 ∷ 32 ∷ 111 ∷ 110 ∷ 32 ∷ 116 ∷ 104 ∷ 101 ∷ 32 ∷
    103 ∷ 114 ∷ 101 ∷ 97 ∷ 116 ∷ 32 ∷ 99 ∷ 105 ∷ 114 ∷ 99 ∷ 108 ∷ 101 ∷ 32 ∷ 111 ∷ 102 ∷ 32 ∷ 97 ∷ 32 ∷ 115 ∷ 105 ∷
    100 ∷ 101 ∷ []) ∷
    -- query beyond the grid or all zero
    row 17 0 (
    113 ∷ 117 ∷ 101 ∷ 114 ∷ 121 ∷ 32 ∷ 98 ∷ 101 ∷ 121 ∷ 111 ∷ 110 ∷ 100 ∷ 32 ∷ 116 ∷ 104 ∷ 101 ∷ 32 ∷ 103 ∷ 114 ∷
    105 ∷ 100 ∷ 32 ∷ 111 ∷ 114 ∷ 32 ∷ 97 ∷ 108 ∷ 108 ∷ 32 ∷ 122 ∷ 101 ∷ 114 ∷ 111 ∷ []) ∷
    -- query opposite the known point
    row 18 0 (
    113 ∷ 117 ∷ 101 ∷ 114 ∷ 121 ∷ 32 ∷ 111 ∷ 112 ∷ 112 ∷ 111 ∷ 115 ∷ 105 ∷ 116 ∷ 101 ∷ 32 ∷ 116 ∷ 104 ∷ 101 ∷ 32 ∷
    107 ∷ 110 ∷ 111 ∷ 119 ∷ 110 ∷ 32 ∷ 112 ∷ 111 ∷ 105 ∷ 110 ∷ 116 ∷ []) ∷
    -- no second known point that passes
    row 19 0 (
    110 ∷ 111 ∷ 32 ∷ 115 ∷ 101 ∷ 99 ∷ 111 ∷ 110 ∷ 100 ∷ 32 ∷ 107 ∷ 110 ∷ 111 ∷ 119 ∷ 110 ∷ 32 ∷ 112 ∷ 111 ∷ 105 ∷
    110 ∷ 116 ∷ 32 ∷ 116 ∷ 104 ∷ 97 ∷ 116 ∷ 32 ∷ 112 ∷ 97 ∷ 115 ∷ 115 ∷ 101 ∷ 115 ∷ []) ∷
    -- sheet cut short
    row 20 3 (115 ∷ 104 ∷ 101 ∷ 101 ∷ 116 ∷ 32 ∷ 99 ∷ 117 ∷ 116 ∷ 32 ∷ 115 ∷ 104 ∷ 111 ∷ 114 ∷ 116 ∷ []) ∷
    -- wrong tag in the sheet
    row 21 3 (
    119 ∷ 114 ∷ 111 ∷ 110 ∷ 103 ∷ 32 ∷ 116 ∷ 97 ∷ 103 ∷ 32 ∷ 105 ∷ 110 ∷ 32 ∷ 116 ∷ 104 ∷ 101 ∷ 32 ∷ 115 ∷ 104 ∷
    101 ∷ 101 ∷ 116 ∷ []) ∷
    -- length not allowed in the sheet
    row 22 3 (
    108 ∷ 101 ∷ 110 ∷ 103 ∷ 116 ∷ 104 ∷ 32 ∷ 110 ∷ 111 ∷ 116 ∷ 32 ∷ 97 ∷ 108 ∷ 108 ∷ 111 ∷ 119 ∷ 101 ∷ 100 ∷ 32 ∷
    105 ∷ 110 ∷ 32 ∷ 116 ∷ 104 ∷ 101 ∷ 32 ∷ 115 ∷ 104 ∷ 101 ∷ 101 ∷ 116 ∷ []) ∷
    -- unknown character set
    row 23 3 (
    117 ∷ 110 ∷ 107 ∷ 110 ∷ 111 ∷ 119 ∷ 110 ∷ 32 ∷ 99 ∷ 104 ∷ 97 ∷ 114 ∷ 97 ∷ 99 ∷ 116 ∷ 101 ∷ 114 ∷ 32 ∷ 115 ∷
    101 ∷ 116 ∷ []) ∷
    -- bytes after the last field
    row 24 3 (
    98 ∷ 121 ∷ 116 ∷ 101 ∷ 115 ∷ 32 ∷ 97 ∷ 102 ∷ 116 ∷ 101 ∷ 114 ∷ 32 ∷ 116 ∷ 104 ∷ 101 ∷ 32 ∷ 108 ∷ 97 ∷ 115 ∷
    116 ∷ 32 ∷ 102 ∷ 105 ∷ 101 ∷ 108 ∷ 100 ∷ []) ∷
    -- buffer too short for the sheet
    row 25 4 (
    98 ∷ 117 ∷ 102 ∷ 102 ∷ 101 ∷ 114 ∷ 32 ∷ 116 ∷ 111 ∷ 111 ∷ 32 ∷ 115 ∷ 104 ∷ 111 ∷ 114 ∷ 116 ∷ 32 ∷ 102 ∷ 111 ∷
    114 ∷ 32 ∷ 116 ∷ 104 ∷ 101 ∷ 32 ∷ 115 ∷ 104 ∷ 101 ∷ 101 ∷ 116 ∷ []) ∷
    -- query or position cut off
    row 26 0 (
    113 ∷ 117 ∷ 101 ∷ 114 ∷ 121 ∷ 32 ∷ 111 ∷ 114 ∷ 32 ∷ 112 ∷ 111 ∷ 115 ∷ 105 ∷ 116 ∷ 105 ∷ 111 ∷ 110 ∷ 32 ∷ 99 ∷
    117 ∷ 116 ∷ 32 ∷ 111 ∷ 102 ∷ 102 ∷ []) ∷
    -- result buffer too short
    row 27 4 (
    114 ∷ 101 ∷ 115 ∷ 117 ∷ 108 ∷ 116 ∷ 32 ∷ 98 ∷ 117 ∷ 102 ∷ 102 ∷ 101 ∷ 114 ∷ 32 ∷ 116 ∷ 111 ∷ 111 ∷ 32 ∷ 115 ∷
    104 ∷ 111 ∷ 114 ∷ 116 ∷ []) ∷
    -- grid mixed or unknown
    row 28 0 (
    103 ∷ 114 ∷ 105 ∷ 100 ∷ 32 ∷ 109 ∷ 105 ∷ 120 ∷ 101 ∷ 100 ∷ 32 ∷ 111 ∷ 114 ∷ 32 ∷ 117 ∷ 110 ∷ 107 ∷ 110 ∷ 111 ∷
    119 ∷ 110 ∷ []) ∷
    -- not one GeoJSON Polygon of the kind that is read
    row 30 3 (
    110 ∷ 111 ∷ 116 ∷ 32 ∷ 111 ∷ 110 ∷ 101 ∷ 32 ∷ 71 ∷ 101 ∷ 111 ∷ 74 ∷ 83 ∷ 79 ∷ 78 ∷ 32 ∷ 80 ∷ 111 ∷ 108 ∷ 121 ∷
    103 ∷ 111 ∷ 110 ∷ 32 ∷ 111 ∷ 102 ∷ 32 ∷ 116 ∷ 104 ∷ 101 ∷ 32 ∷ 107 ∷ 105 ∷ 110 ∷ 100 ∷ 32 ∷ 116 ∷ 104 ∷ 97 ∷
    116 ∷ 32 ∷ 105 ∷ 115 ∷ 32 ∷ 114 ∷ 101 ∷ 97 ∷ 100 ∷ []) ∷
    -- latitude past 90 or longitude past 180 degrees
    row 31 5 (
    108 ∷ 97 ∷ 116 ∷ 105 ∷ 116 ∷ 117 ∷ 100 ∷ 101 ∷ 32 ∷ 112 ∷ 97 ∷ 115 ∷ 116 ∷ 32 ∷ 57 ∷ 48 ∷ 32 ∷ 111 ∷ 114 ∷ 32 ∷
    108 ∷ 111 ∷ 110 ∷ 103 ∷ 105 ∷ 116 ∷ 117 ∷ 100 ∷ 101 ∷ 32 ∷ 112 ∷ 97 ∷ 115 ∷ 116 ∷ 32 ∷ 49 ∷ 56 ∷ 48 ∷ 32 ∷
    100 ∷ 101 ∷ 103 ∷ 114 ∷ 101 ∷ 101 ∷ 115 ∷ []) ∷
    -- ring not closed or under four positions
    row 32 0 (
    114 ∷ 105 ∷ 110 ∷ 103 ∷ 32 ∷ 110 ∷ 111 ∷ 116 ∷ 32 ∷ 99 ∷ 108 ∷ 111 ∷ 115 ∷ 101 ∷ 100 ∷ 32 ∷ 111 ∷ 114 ∷ 32 ∷
    117 ∷ 110 ∷ 100 ∷ 101 ∷ 114 ∷ 32 ∷ 102 ∷ 111 ∷ 117 ∷ 114 ∷ 32 ∷ 112 ∷ 111 ∷ 115 ∷ 105 ∷ 116 ∷ 105 ∷ 111 ∷ 110 ∷
    115 ∷ []) ∷
    -- neighbours more than one degree apart
    row 33 5 (
    110 ∷ 101 ∷ 105 ∷ 103 ∷ 104 ∷ 98 ∷ 111 ∷ 117 ∷ 114 ∷ 115 ∷ 32 ∷ 109 ∷ 111 ∷ 114 ∷ 101 ∷ 32 ∷ 116 ∷ 104 ∷ 97 ∷
    110 ∷ 32 ∷ 111 ∷ 110 ∷ 101 ∷ 32 ∷ 100 ∷ 101 ∷ 103 ∷ 114 ∷ 101 ∷ 101 ∷ 32 ∷ 97 ∷ 112 ∷ 97 ∷ 114 ∷ 116 ∷ []) ∷
    -- over 512 vertices
    row 34 0 (111 ∷ 118 ∷ 101 ∷ 114 ∷ 32 ∷ 53 ∷ 49 ∷ 50 ∷ 32 ∷ 118 ∷ 101 ∷ 114 ∷ 116 ∷ 105 ∷ 99 ∷ 101 ∷ 115 ∷ []) ∷
    -- two sides share a point
    row 35 1 (
    116 ∷ 119 ∷ 111 ∷ 32 ∷ 115 ∷ 105 ∷ 100 ∷ 101 ∷ 115 ∷ 32 ∷ 115 ∷ 104 ∷ 97 ∷ 114 ∷ 101 ∷ 32 ∷ 97 ∷ 32 ∷ 112 ∷
    111 ∷ 105 ∷ 110 ∷ 116 ∷ []) ∷
    -- bytes left after 64 sheets
    row 36 3 (
    98 ∷ 121 ∷ 116 ∷ 101 ∷ 115 ∷ 32 ∷ 108 ∷ 101 ∷ 102 ∷ 116 ∷ 32 ∷ 97 ∷ 102 ∷ 116 ∷ 101 ∷ 114 ∷ 32 ∷ 54 ∷ 52 ∷ 32 ∷
    115 ∷ 104 ∷ 101 ∷ 101 ∷ 116 ∷ 115 ∷ []) ∷
    []

abbrev pub find_in : List Row → ℕ → Row
find_in [] n = row n 0 unknown
find_in (r ∷ rs) n = cond (eqb n r.number) r (find_in rs n)

unfoldable pub row_of : ℕ → Row
row_of n = find_in rows n

abbrev pub kind_of : ℕ → ℕ
kind_of n = (row_of n).kind

abbrev pub text_of : ℕ → List ℕ
text_of n = (row_of n).text

-- As much of a text as fits, in front, and the rest as it was.
abbrev pub front_of : List ℕ → List ℕ → List ℕ
front_of text buffer = take (length buffer) text ++ drop (length text) buffer

unfoldable pub text_to : ℕ → List ℕ → List ℕ
text_to n buffer = front_of (text_of n) buffer

-- ---- for the code alone: readers need none of it

-- The texts end to end, with the one for any other number last, and where each begins.
abbrev pub joined : List Row → List ℕ
joined [] = unknown
joined (r ∷ rs) = r.text ++ joined rs

abbrev pub start_in : List Row → ℕ → ℕ
start_in [] n = 0
start_in (r ∷ rs) n = cond (eqb n r.number) 0 (length r.text + start_in rs n)

unfoldable pub letters : List ℕ
unfolding rows
letters = joined rows

-- Tables by the number; those from 37 on are alike.
abbrev pub index_of : ℕ → ℕ
index_of n = cond (ltb n 37) n 37

abbrev pub tabled : (ℕ → ℕ) → ℕ → ℕ → List ℕ
tabled f i zero = []
tabled f i (suc k) = f i ∷ tabled f (suc i) k

unfoldable pub kind_table : List ℕ
kind_table = tabled kind_of 0 38

unfoldable pub start_table : List ℕ
start_table = tabled (start_in rows) 0 38

unfoldable pub size_table : List ℕ
size_table = tabled (λ n. length (text_of n)) 0 38

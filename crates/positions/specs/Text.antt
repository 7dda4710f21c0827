-- Document 02, P7: the code's machine for the texts that can be imported, byte by byte. Which texts these are is said
-- by their grammar in crate polygon_text, which proves that this machine takes them and no others: readers need not
-- believe what stands here. Defined, in order: words, gaps (the two texts around the ring), class_of, class_table
-- (classes of bytes), rows (the ring), dead, pick, ring_next, literal, next_of (one byte more), start, read (a whole
-- text); is_point (the code's). Claims: what read calls dead is no text's beginning, and what comes before it is.
use Rattle.std.specs.declared.result.Result.{Result}
use Rattle.std.specs.Prelude.{⊤}
use Rattle.std.specs.declared.result.Result.TheVariants.{Ok, Err}
use Rattle.std.specs.Prelude.{Bool, true, false, cond, ◌&&◌, ◌||◌, List, [], ◌∷◌, ℕ, zero, suc, ◌+◌, ◌*◌, eqb, leb, ltb, get_or}
use Rattle.positions.specs.declared.grammar.State.{State}

-- {"type":"Polygon","coordinates":[[ ring ]} and {"coordinates":[[ ring ],"type":"Polygon"}, in ASCII. 256 stands for
-- what is left of the ring after its `[`, its own `]` among it, and 257 for the end.
unfoldable pub words : List ℕ
words =
    123 ∷ 34 ∷ 116 ∷ 121 ∷ 112 ∷ 101 ∷ 34 ∷ 58 ∷
    34 ∷ 80 ∷ 111 ∷ 108 ∷ 121 ∷ 103 ∷ 111 ∷ 110 ∷ 34 ∷ 44 ∷
    34 ∷ 99 ∷ 111 ∷ 111 ∷ 114 ∷ 100 ∷ 105 ∷ 110 ∷ 97 ∷ 116 ∷ 101 ∷ 115 ∷ 34 ∷ 58 ∷
    91 ∷ 91 ∷ 256 ∷ 93 ∷ 125 ∷ 257 ∷
    123 ∷ 34 ∷ 99 ∷ 111 ∷ 111 ∷ 114 ∷ 100 ∷ 105 ∷ 110 ∷ 97 ∷ 116 ∷ 101 ∷ 115 ∷ 34 ∷ 58 ∷
    91 ∷ 91 ∷ 256 ∷ 93 ∷ 44 ∷
    34 ∷ 116 ∷ 121 ∷ 112 ∷ 101 ∷ 34 ∷ 58 ∷
    34 ∷ 80 ∷ 111 ∷ 108 ∷ 121 ∷ 103 ∷ 111 ∷ 110 ∷ 34 ∷ 125 ∷ 257 ∷
    []

-- White space may stand before what is not within quotes.
abbrev pub gaps_from : Bool → List ℕ → List ℕ
gaps_from q [] = []
gaps_from true (x ∷ xs) = 0 ∷ cond (eqb x 34) (gaps_from false xs) (gaps_from true xs)
gaps_from false (x ∷ xs) = 1 ∷ cond (eqb x 34) (gaps_from true xs) (gaps_from false xs)

unfoldable pub gaps : List ℕ
unfolding words
gaps = gaps_from false words

-- 1 white space, 2 `[`, 3 `]`, 4 `,`, 5 `-`, 6 `0`, 7 another digit, 8 `.`, 0 any other byte
unfoldable pub class_of : ℕ → ℕ
class_of b =
    cond (eqb b 32 || eqb b 9 || eqb b 10 || eqb b 13) 1
    (cond (eqb b 91) 2
    (cond (eqb b 93) 3
    (cond (eqb b 44) 4
    (cond (eqb b 45) 5
    (cond (eqb b 48) 6
    (cond (leb 49 b && leb b 57) 7
    (cond (eqb b 46) 8 0)))))))

-- The same as a table, of every byte.
abbrev pub tabled : (ℕ → ℕ) → ℕ → ℕ → List ℕ
tabled f i zero = []
tabled f i (suc k) = f i ∷ tabled f (suc i) k

unfoldable pub class_table : List ℕ
class_table = tabled class_of 0 256

-- The ring after its `[`: a row for each state, by the class of the next byte, 0 to 8. 29 is its end, and 30 is no
-- text. The states, in order: nothing yet; after a position; after a comma between two; then twice the same, for a
-- longitude (3 to 15) and a latitude (16 to 28): before it, after its `-`, after a single 0, after other digits, after
-- the point, after one to seven decimals, and after white space behind it.
unfoldable pub rows : List ℕ
rows =
    30 ∷ 0 ∷ 3 ∷ 29 ∷ 30 ∷ 30 ∷ 30 ∷ 30 ∷ 30 ∷
    30 ∷ 1 ∷ 30 ∷ 29 ∷ 2 ∷ 30 ∷ 30 ∷ 30 ∷ 30 ∷
    30 ∷ 2 ∷ 3 ∷ 30 ∷ 30 ∷ 30 ∷ 30 ∷ 30 ∷ 30 ∷
    30 ∷ 3 ∷ 30 ∷ 30 ∷ 30 ∷ 4 ∷ 5 ∷ 6 ∷ 30 ∷
    30 ∷ 30 ∷ 30 ∷ 30 ∷ 30 ∷ 30 ∷ 5 ∷ 6 ∷ 30 ∷
    30 ∷ 15 ∷ 30 ∷ 30 ∷ 16 ∷ 30 ∷ 30 ∷ 30 ∷ 7 ∷
    30 ∷ 15 ∷ 30 ∷ 30 ∷ 16 ∷ 30 ∷ 6 ∷ 6 ∷ 7 ∷
    30 ∷ 30 ∷ 30 ∷ 30 ∷ 30 ∷ 30 ∷ 8 ∷ 8 ∷ 30 ∷
    30 ∷ 15 ∷ 30 ∷ 30 ∷ 16 ∷ 30 ∷ 9 ∷ 9 ∷ 30 ∷
    30 ∷ 15 ∷ 30 ∷ 30 ∷ 16 ∷ 30 ∷ 10 ∷ 10 ∷ 30 ∷
    30 ∷ 15 ∷ 30 ∷ 30 ∷ 16 ∷ 30 ∷ 11 ∷ 11 ∷ 30 ∷
    30 ∷ 15 ∷ 30 ∷ 30 ∷ 16 ∷ 30 ∷ 12 ∷ 12 ∷ 30 ∷
    30 ∷ 15 ∷ 30 ∷ 30 ∷ 16 ∷ 30 ∷ 13 ∷ 13 ∷ 30 ∷
    30 ∷ 15 ∷ 30 ∷ 30 ∷ 16 ∷ 30 ∷ 14 ∷ 14 ∷ 30 ∷
    30 ∷ 15 ∷ 30 ∷ 30 ∷ 16 ∷ 30 ∷ 30 ∷ 30 ∷ 30 ∷
    30 ∷ 15 ∷ 30 ∷ 30 ∷ 16 ∷ 30 ∷ 30 ∷ 30 ∷ 30 ∷
    30 ∷ 16 ∷ 30 ∷ 30 ∷ 30 ∷ 17 ∷ 18 ∷ 19 ∷ 30 ∷
    30 ∷ 30 ∷ 30 ∷ 30 ∷ 30 ∷ 30 ∷ 18 ∷ 19 ∷ 30 ∷
    30 ∷ 28 ∷ 30 ∷ 1 ∷ 30 ∷ 30 ∷ 30 ∷ 30 ∷ 20 ∷
    30 ∷ 28 ∷ 30 ∷ 1 ∷ 30 ∷ 30 ∷ 19 ∷ 19 ∷ 20 ∷
    30 ∷ 30 ∷ 30 ∷ 30 ∷ 30 ∷ 30 ∷ 21 ∷ 21 ∷ 30 ∷
    30 ∷ 28 ∷ 30 ∷ 1 ∷ 30 ∷ 30 ∷ 22 ∷ 22 ∷ 30 ∷
    30 ∷ 28 ∷ 30 ∷ 1 ∷ 30 ∷ 30 ∷ 23 ∷ 23 ∷ 30 ∷
    30 ∷ 28 ∷ 30 ∷ 1 ∷ 30 ∷ 30 ∷ 24 ∷ 24 ∷ 30 ∷
    30 ∷ 28 ∷ 30 ∷ 1 ∷ 30 ∷ 30 ∷ 25 ∷ 25 ∷ 30 ∷
    30 ∷ 28 ∷ 30 ∷ 1 ∷ 30 ∷ 30 ∷ 26 ∷ 26 ∷ 30 ∷
    30 ∷ 28 ∷ 30 ∷ 1 ∷ 30 ∷ 30 ∷ 27 ∷ 27 ∷ 30 ∷
    30 ∷ 28 ∷ 30 ∷ 1 ∷ 30 ∷ 30 ∷ 30 ∷ 30 ∷ 30 ∷
    30 ∷ 28 ∷ 30 ∷ 1 ∷ 30 ∷ 30 ∷ 30 ∷ 30 ∷ 30 ∷
    []

abbrev pub dead : State
dead = record { at = 76; ring = 0 }

abbrev pub pick : Bool → State → State → State
pick true a b = a
pick false a b = b

unfoldable pub ring_next : State → ℕ → State
ring_next s c =
    let t = get_or rows (s.ring * 9 + c) 0 in
    pick (ltb t 29) (record { at = s.at; ring = t }) (pick (eqb t 29) (record { at = s.at + 1; ring = 0 }) dead)

-- At 2, the first letter of the first key, the byte 99, a `c`, leads to the other text: 611 is 2 * 256 + 99. White
-- space is the class 1.
unfoldable pub literal : State → ℕ → ℕ → State
literal s b c =
    pick (eqb (get_or words s.at 0) b) (record { at = s.at + 1; ring = 0 })
    (pick (eqb (s.at * 256 + b) 611) (record { at = 41; ring = 0 })
    (pick (eqb (get_or gaps s.at 0 * c) 1) s dead))

unfoldable pub next_of : State → ℕ → State
next_of s b = pick (eqb (get_or words s.at 0) 256) (ring_next s (class_of b)) (literal s b (class_of b))

abbrev pub start : State
start = record { at = 0; ring = 0 }

abbrev pub pick_reading : Bool → Result ⊤ ℕ → Result ⊤ ℕ → Result ⊤ ℕ
pick_reading true a b = a
pick_reading false a b = b

-- From the state s, at the place i of the text l, with k bytes left. 37 and 75 are the ends of the two texts.
unfoldable pub read : List ℕ → State → ℕ → ℕ → Result ⊤ ℕ
read l s i zero = pick_reading (eqb s.at 37) (Ok tt) (pick_reading (eqb s.at 75) (Ok tt) (Err i))
read l s i (suc k) =
    pick_reading (eqb (next_of s (get_or l i 0)).at 76) (Err i) (read l (next_of s (get_or l i 0)) (suc i) k)

-- ---- the code's: after a number's point, of a longitude or of a latitude
unfoldable pub is_point : State → Bool
is_point s = eqb (get_or words s.at 0) 256 && (eqb s.ring 7 || eqb s.ring 20)

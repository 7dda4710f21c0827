-- Document 02, P7: the positions of a text, as the code finds them, from its bytes alone. Which positions a text has is
-- said by its grammar in crate polygon_text, which proves that these are they. Defined, in order: digit_of, is_digit,
-- fresh, pending_of (the number being read, after one byte more), is_end, position_of, Walk, stepped, walked (after i
-- bytes); exact, positions_of; most, held, Small, onward, DigitRun. A number is in ten-millionths of a degree, and has
-- any number of digits before the point. The code holds no more of its size than 200 degrees, so each definition takes
-- what is held of a size: positions_of has all of it.
use Rattle.std.specs.Prelude.{◌≡◌, Bool, true, false, cond, ◌&&◌, List, [], ◌∷◌, ◌++◌, ℕ, zero, suc, ◌+◌, ◌-◌, ◌*◌, ◌/◌, ◌≤◌, ◌<◌, min, eqb, leb, pos, length, get_or}
use Rattle.angles.specs.declared.point.Position.{Position}
use Rattle.angles.specs.Point.{signed_of}
use Rattle.positions.specs.declared.number.Pending.{Pending}

-- Before the point a digit makes the number ten times as large and counts whole degrees; after it, it counts a tenth of
-- what the digit before it counted.
unfoldable pub digit_of : (ℕ → ℕ) → Pending → ℕ → Pending
digit_of hold p d =
    cond (eqb p.unit 0)
    (record {
      negative = p.negative;
      digits = true;
      size = hold (p.size * 10 + d * 10000000);
      unit = 0;
      lon = p.lon;
    })
    (record {
      negative = p.negative;
      digits = true;
      size = hold (p.size + d * (p.unit / 10));
      unit = p.unit / 10;
      lon = p.lon;
    })

unfoldable pub is_digit : ℕ → Bool
is_digit b = leb 48 b && leb b 57

abbrev pub fresh : Pending
fresh = record { negative = false; digits = false; size = 0; unit = 0; lon = pos 0 }

-- `-`, `.` and `,`: a comma ends the longitude. Any other byte changes nothing.
unfoldable pub pending_of : (ℕ → ℕ) → Pending → ℕ → Pending
pending_of hold p b =
    cond (is_digit b) (digit_of hold p (b - 48))
    (cond (eqb b 45)
    (record { negative = true; digits = p.digits; size = p.size; unit = p.unit; lon = p.lon })
    (cond (eqb b 46)
    (record { negative = p.negative; digits = p.digits; size = p.size; unit = 10000000; lon = p.lon })
    (cond (eqb b 44)
    (record { negative = false; digits = false; size = 0; unit = 0; lon = signed_of p.negative p.size })
    p)))

-- A `]` after a number ends a position.
unfoldable pub is_end : Pending → ℕ → Bool
is_end p b = eqb b 93 && p.digits

abbrev pub position_of : Pending → Position
position_of p = record { lon = p.lon; lat = signed_of p.negative p.size }

pub record Walk : Type 0 where
  pub pending : Pending
  pub done : List Position

unfoldable pub stepped : (ℕ → ℕ) → Walk → ℕ → Walk
stepped hold w b =
    cond (is_end w.pending b)
    (record { pending = fresh; done = w.done ++ (position_of w.pending ∷ []) })
    (record { pending = pending_of hold w.pending b; done = w.done })

-- After the first i bytes.
unfoldable pub walked : (ℕ → ℕ) → List ℕ → ℕ → Walk
walked hold text zero = record { pending = fresh; done = [] }
walked hold text (suc i) = stepped hold (walked hold text i) (get_or text i 0)

abbrev pub exact : ℕ → ℕ
exact n = n

-- The positions of the whole text.
unfoldable pub positions_of : List ℕ → List Position
positions_of text = (walked exact text (length text)).done

-- ---- the code's

-- 200 degrees: a number past that is out of range all the same.
abbrev pub most : ℕ
most = 2000000000

abbrev pub held : ℕ → ℕ
held n = min n most

-- What the code keeps of the number being read.
pub record Small (p : Pending) : Type 0 where
  pub size : p.size ≤ 2000000000
  pub unit : p.unit ≤ 10000000

-- After k bytes more from the place i, none of which ends a position.
unfoldable pub onward : List ℕ → ℕ → Pending → ℕ → Pending
onward text i p zero = p
onward text i p (suc k) = pending_of held (onward text i p k) (get_or text (i + k) 0)

-- The k bytes from the place i, at most seven, are digits.
pub record DigitRun (text : List ℕ) (i k : ℕ) : Type 0 where
  pub inside : i + k ≤ length text
  pub few : k ≤ 7
  pub each : (j : ℕ) → j < k → is_digit (get_or text (i + j) 0) ≡ true

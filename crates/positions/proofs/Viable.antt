-- Every state that is not dead can still be completed, so the first dead byte ends the longest beginning that a text
-- can have. Defined: alive, whole (a text by its states), finish (a rest that completes it), Reached, after. Proved, in
-- order: only_alive, finishes (one computed table), next_reached, after_reached, whole_append; completes,
-- completes_in_bytes.
use mathlib.Core.Path.{◌≡◌, refl, sym, subst}
use mathlib.Core.Bool.{Bool, true, false, not, cond, ◌&&◌, ◌||◌}
use mathlib.Core.List.{List, [], ◌∷◌, ◌++◌}
use Prim.Native.Nat.{ℕ, zero, suc, ◌+◌, ◌*◌, ◌<◌}
use native.Mathlib.Nat.{eq-or-lt_of_le, le_of_suc-le-suc}
use mathlib.Core.Logic.{inl, inr}
use native.Mathlib.Omega.{arith}
use lib.Dec.{T, T_not, eqb, ltb, eqb_refl}
use lib.Arith.{lt_of_le-ne}
use Rattle.positions.proofs.TextLaws.{next_ok}
use lib.Ieee.Fits.{and_i, and_l, and_r}
use lib.ListN.{get_or, drop}
use Rattle.big_endian.specs.Bytes.{AreBytes}
use Rattle.positions.specs.declared.grammar.State.{State}
use Rattle.positions.proofs.Bytes.{are_bytes, are_bytes_lem}
use Rattle.positions.specs.Text.{words, gaps, rows, class_of, pick, dead, ring_next, literal, next_of, start}

-- no byte is dead
abbrev pub alive : State → List ℕ → Bool
alive s [] = true
alive s (b ∷ bs) = not (eqb (next_of s b).at 76) && alive (next_of s b) bs

-- and the last is the end of one of the two texts
abbrev pub whole : State → List ℕ → Bool
whole s [] = eqb s.at 37 || eqb s.at 75
whole s (b ∷ bs) = not (eqb (next_of s b).at 76) && whole (next_of s b) bs

pub only_alive : (p q : List ℕ) (s : State) → T (whole s (p ++ q)) → T (alive s p)
only_alive [] q s t = tt
only_alive (b ∷ p) q s t =
    and_i (not (eqb (next_of s b).at 76)) (alive (next_of s b) p)
    (and_l (not (eqb (next_of s b).at 76)) (whole (next_of s b) (p ++ q)) t)
    (only_alive p q (next_of s b) (and_r (not (eqb (next_of s b).at 76)) (whole (next_of s b) (p ++ q)) t))

-- the rest of a text from a place on, with an empty ring
rest : List ℕ → List ℕ
rest [] = []
rest (x ∷ xs) = cond (eqb x 257) [] (cond (eqb x 256) 93 x ∷ rest xs)

-- the rest of the ring: `]`, `[0,0]]`, `0,0]]`, `,0]]`, `0]]` or `]]`
ring_rest : ℕ → List ℕ
ring_rest r =
    cond (ltb r 2) (93 ∷ [])
    (cond (eqb r 2) (91 ∷ 48 ∷ 44 ∷ 48 ∷ 93 ∷ 93 ∷ [])
    (cond (ltb r 5 || eqb r 7) (48 ∷ 44 ∷ 48 ∷ 93 ∷ 93 ∷ [])
    (cond (ltb r 16) (44 ∷ 48 ∷ 93 ∷ 93 ∷ [])
    (cond (ltb r 18 || eqb r 20) (48 ∷ 93 ∷ 93 ∷ []) (93 ∷ 93 ∷ [])))))

pub finish : State → List ℕ
unfolding rest ring_rest
finish s = cond (eqb (get_or words s.at 0) 256) (ring_rest s.ring ++ rest (drop (suc s.at) words))
    (rest (drop s.at words))

-- the tests at each place, with the ring's states where the ring stands
ok_at : ℕ → ℕ → Bool
unfolding finish words gaps rows class_of ring_next literal next_of
ok_at a r = let s : State =
    record { at = a; ring = r } in not (eqb (get_or words a 0) 256 || eqb r 0) || (whole s (finish s) && are_bytes (finish s))

row : ℕ → ℕ → Bool
unfolding ok_at
row a zero = true
row a (suc r) = ok_at a r && row a r

table : ℕ → Bool
unfolding row
table zero = true
table (suc a) = row a 29 && table a

all : T (table 76)
unfolding table finish words gaps rows class_of ring_next literal next_of ok_at row rest ring_rest
all = tt

in_row : (a n : ℕ) → T (row a n) → (r : ℕ) → r < n → T (ok_at a r)
unfolding row
in_row a zero t r h = absurd (none h)
  where
    none : r < 0 → ⊥
    none h = omega arith
in_row a (suc n) t r h = elim (eq-or-lt_of_le (le_of_suc-le-suc h)) [
  | inl e ↦ subst (λ (k : ℕ). T (ok_at a k)) (sym e) (and_l (ok_at a n) (row a n) t)
  | inr l ↦ in_row a n (and_r (ok_at a n) (row a n) t) r l
]

in_table : (n : ℕ) → T (table n) → (a : ℕ) → a < n → T (row a 29)
unfolding table
in_table zero t a h = absurd (none h)
  where
    none : a < 0 → ⊥
    none h = omega arith
in_table (suc n) t a h = elim (eq-or-lt_of_le (le_of_suc-le-suc h)) [
  | inl e ↦ subst (λ (k : ℕ). T (row k 29)) (sym e) (and_l (row n 29) (table n) t)
  | inr l ↦ in_table n (and_r (row n 29) (table n) t) a l
]

-- what a text can be in: a place, and the ring's state 0 outside the ring
pub record Reached (s : State) : Type 0 where
  pub at : s.at < 76
  pub ring : s.ring < 29
  pub outside : T (eqb (get_or words s.at 0) 256 || eqb s.ring 0)

implied : (a b : Bool) → T (not a || b) → T a → T b
implied true b t u = t
implied false b t u = absurd u

finishes_in_bytes : (s : State) → Reached s → T (whole s (finish s) && are_bytes (finish s))
unfolding ok_at
finishes_in_bytes s h =
    implied (eqb (get_or words s.at 0) 256 || eqb s.ring 0) (whole s (finish s) && are_bytes (finish s))
    (in_row s.at 29 (in_table 76 all s.at h.at) s.ring h.ring) h.outside

pub finishes : (s : State) → Reached s → T (whole s (finish s))
finishes s h = and_l (whole s (finish s)) (are_bytes (finish s)) (finishes_in_bytes s h)

abbrev Outside : State → Type 0
Outside s = T (eqb (get_or words s.at 0) 256 || eqb s.ring 0)

picked : (b : Bool) (x y : State) → (b ≡ true → Outside x) → Outside y → Outside (pick b x y)
picked true x y p q = p refl
picked false x y p q = q

or_l : (a b : Bool) → a ≡ true → T (a || b)
or_l true b e = tt
or_l false b e = absurd (subst T (sym e) tt)

or_r : (a b : Bool) → T b → T (a || b)
or_r true b t = tt
or_r false b t = t

plain : (n : ℕ) → Outside (record { at = n; ring = 0 })
plain n = or_r (eqb (get_or words n 0) 256) true tt

next_outside : (s : State) (b : ℕ) → Outside s → Outside (next_of s b)
unfolding next_of ring_next literal
next_outside s b h =
    let t = get_or rows (s.ring * 9 + class_of b) 0 in
    picked (eqb (get_or words s.at 0) 256) _ _
    (λ e. picked (ltb t 29) (record { at = s.at; ring = t }) _ (λ _. or_l (eqb (get_or words s.at 0) 256) (eqb t 0) e)
    (picked (eqb t 29) (record { at = s.at + 1; ring = 0 }) dead (λ _. plain (s.at + 1)) (plain 76)))
    (picked (eqb (get_or words s.at 0) b) (record { at = s.at + 1; ring = 0 }) _ (λ _. plain (s.at + 1))
    (picked (eqb (s.at * 256 + b) 611) (record { at = 41; ring = 0 }) _ (λ _. plain 41)
    (picked (eqb (get_or gaps s.at 0 * class_of b) 1) s dead (λ _. h) (plain 76))))

differs : (a b : ℕ) → T (not (eqb a b)) → a ≡ b → ⊥
differs a b t e = T_not (eqb a b) t (subst (λ (x : ℕ). T (eqb a x)) e (eqb_refl a))

next_reached : (s : State) (b : ℕ) → Reached s → T (not (eqb (next_of s b).at 76)) → Reached (next_of s b)
next_reached s b h t =
    let k = next_ok s b h.at h.ring in
    record {
      at = lt_of_le-ne k.at (differs (next_of s b).at 76 t);
      ring = k.ring;
      outside = next_outside s b
          h.outside;
    }

abbrev pub after : State → List ℕ → State
after s [] = s
after s (b ∷ bs) = after (next_of s b) bs

pub after_reached : (p : List ℕ) (s : State) → Reached s → T (alive s p) → Reached (after s p)
after_reached [] s h t = h
after_reached (b ∷ p) s h t =
    let n = not (eqb (next_of s b).at 76) in
    after_reached p (next_of s b) (next_reached s b h (and_l n (alive (next_of s b) p) t))
    (and_r n (alive (next_of s b) p) t)

pub whole_append : (p q : List ℕ) (s : State) → T (alive s p) → T (whole (after s p) q) → T (whole s (p ++ q))
whole_append [] q s t u = u
whole_append (b ∷ p) q s t u =
    let n = not (eqb (next_of s b).at 76) in
    and_i n (whole (next_of s b) (p ++ q)) (and_l n (alive (next_of s b) p) t)
    (whole_append p q (next_of s b) (and_r n (alive (next_of s b) p) t) u)

reached : (p : List ℕ) → T (alive start p) → Reached (after start p)
reached p = after_reached p start (record { at = omega arith; ring = omega arith; outside = plain 0 })

-- a beginning that is alive is one of a whole text, whose rest is of bytes
pub completes : (p : List ℕ) → T (alive start p) → T (whole start (p ++ finish (after start p)))
completes p t = whole_append p (finish (after start p)) start t (finishes (after start p) (reached p t))

pub completes_in_bytes : (p : List ℕ) → T (alive start p) → AreBytes (finish (after start p))
completes_in_bytes p t =
    let s = after start p in
    are_bytes_lem (finish s) (and_r (whole s (finish s)) (are_bytes (finish s)) (finishes_in_bytes s (reached p t)))

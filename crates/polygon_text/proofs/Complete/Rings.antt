-- Positions and rings are read. Defined: found (the walk between two positions). Proved, in order: one_byte, pair, ring,
-- closing, whole_ring.
use mathlib.Core.Path.{◌≡◌, refl, sym, subst}
use mathlib.Core.Bool.{Bool, true, false, cond}
use mathlib.Core.List.{List, [], ◌∷◌, ◌++◌, map, append_assoc}
use Prim.Native.Nat.{ℕ, ◌+◌}
use lib.Dec.{ltb, lit<}
use lib.IntN.{ℤ, pos, neg_ℤ}
use Rattle.angles.specs.declared.point.Position.{Position}
use Rattle.angles.specs.Point.{signed_of}
use Rattle.positions.specs.Text.{class_of}
use Rattle.positions.specs.Number.{Walk, fresh, pending_of, is_end, is_digit, stepped, exact}
use Rattle.polygon_text.specs.Grammar.{spelling, size_of, Pair, value_of, token, pair_tokens, ring_tokens, SpacedThen}
use Rattle.polygon_text.proofs.Machine.{state, unwalked, Accepts, blanks}
use Rattle.polygon_text.proofs.Tokens.{onward, split}
use Rattle.polygon_text.proofs.Rows.{row, Place, row-0, row-1, row-2, step, close, ring_stays}
use Rattle.polygon_text.proofs.Complete.Steps.{reading, leaving}
use Rattle.polygon_text.proofs.Complete.Numerals.{numeral}

signed_value : (minus : Bool) (size : ℕ) → signed_of minus size ≡ cond minus (neg_ℤ (pos size)) (pos size)
signed_value true size = refl
signed_value false size = refl

abbrev pub found : List Position → Walk
found done = record { pending = fresh; done = done }

open_walk : (done : List Position) → stepped exact (found done) 91 ≡ found done
unfolding stepped is_end pending_of is_digit
open_walk done = refl

close_walk : (done : List Position) → stepped exact (found done) 93 ≡ found done
unfolding stepped is_end pending_of is_digit
close_walk done = refl

comma_walk : (done : List Position) → stepped exact (found done) 44 ≡ found done
unfolding stepped is_end pending_of is_digit
comma_walk done = refl

module _ (a : ℕ) (place : Place a) (ps : List Position) where
  -- A token of one byte, from the state r to t.
  one_byte : (r t b : ℕ) (done : List Position) → row r 1 ≡ r → ltb r 29 ≡ true → row r (class_of b) ≡ t →
      ltb t 29 ≡ true → stepped exact (found done) b ≡ found done → (text : List ℕ) →
      SpacedThen (λ rest. Accepts (state a t) (found done) rest ps) ((b ∷ []) ∷ []) text →
      Accepts (state a r) (found done) text ps
  one_byte r t b done e l f m g text h =
      subst (λ (l : List ℕ). Accepts (state a r) (found done) l ps) (sym h.3)
      (blanks h.0 (b ∷ h.1) (state a r) (found done) ps (ring_stays a place r e l) h.2
      (step a place r t b h.1 (found done) (found done) ps f m g h.4))

  pair : (r : ℕ) → row r 1 ≡ r → row r 2 ≡ 3 → ltb r 29 ≡ true → (p : Pair) (done : List Position) (text : List ℕ) →
      SpacedThen (λ rest. Accepts (state a 1) (found (done ++ (value_of p ∷ []))) rest ps)
      (pair_tokens p) text →
      Accepts (state a r) (found done) text ps
  unfolding class_of
  pair r e f l p done text h =
      one_byte r 3 91 done e l f refl (open_walk done) text (
        h.0,
        h.1,
        h.2,
        h.3,
        numeral a place false (pos 0) done ps p.first h.1
            (onward After Before (spelling p.first ∷ token ",") h.1 second
            (split Behind (spelling p.first ∷ token ",") (spelling p.second ∷ token "]") h.1 h.4)),
      )
    where
      lon : ℤ
      lon = signed_of p.first.minus (size_of p.first)

      Behind : List ℕ → Type 0
      Behind rest = Accepts (state a 1) (found (done ++ (value_of p ∷ []))) rest ps

      After : List ℕ → Type 0
      After = SpacedThen Behind (spelling p.second ∷ token "]")

      Before : List ℕ → Type 0
      Before rest = Accepts (state a 16) (reading false false 0 0 lon done) rest ps

      value : record { lon = lon; lat = signed_of p.second.minus (size_of p.second) } ≡ value_of p
      value = λ i. record {
        lon = signed_value p.first.minus (size_of p.first) i;
        lat = signed_value p.second.minus (size_of p.second) i;
      }

      second : (rest : List ℕ) → After rest → Before rest
      second rest k = numeral a place true lon done ps p.second rest
          (onward Behind
          (λ rest. Accepts (state a 1)
          (leaving true p.second.minus (size_of p.second) lon done) rest ps)
          (spelling p.second ∷ token "]") rest
          (λ rest k. subst (λ (q : Position). Accepts (state a 1) (found (done ++ (q ∷ []))) rest ps)
          (sym value) k) k)

  ring : (p : Pair) (qs : List Pair) (r : ℕ) → row r 1 ≡ r → row r 2 ≡ 3 → ltb r 29 ≡ true → (done : List Position)
      (text : List ℕ) →
      SpacedThen (λ rest. Accepts (state a 1) (found (done ++ map value_of (p ∷ qs))) rest ps)
      (ring_tokens (p ∷ qs)) text →
      Accepts (state a r) (found done) text ps
  unfolding class_of
  ring p [] r e f l done text h = pair r e f l p done text h
  ring p (q ∷ qs) r e f l done text h =
      let Behind : List ℕ → Type 0 =
      λ rest. Accepts (state a 1) (found (done ++ map value_of (p ∷ q ∷ qs))) rest ps in
      let Then : List ℕ → Type 0 =
      λ rest. Accepts (state a 1) (found (done ++ (value_of p ∷ []) ++ map value_of (q ∷ qs))) rest ps in
      pair r e f l p done text
      (onward (SpacedThen Behind (token "," ++ ring_tokens (q ∷ qs)))
      (λ rest. Accepts (state a 1) (found (done ++ (value_of p ∷ []))) rest ps) (pair_tokens p) text
      (λ rest k. one_byte 1 2 44 (done ++ (value_of p ∷ [])) (row-1.of 1 (lit< tt)) refl (row-1.of 4 (lit< tt)) refl
      (comma_walk (done ++ (value_of p ∷ []))) rest (
        k.0,
        k.1,
        k.2,
        k.3,
        ring q qs 2 (row-2.of 1 (lit< tt)) (row-2.of 2 (lit< tt)) refl
            (done ++ (value_of p ∷ [])) k.1
            (onward Behind Then (ring_tokens (q ∷ qs)) k.1
            (λ rest k. subst (λ (l : List Position). Accepts (state a 1) (found l) rest ps)
            (sym (append_assoc done (value_of p ∷ []) (map value_of (q ∷ qs)))) k) k.4),
      ))
      (split Behind (pair_tokens p) (token "," ++ ring_tokens (q ∷ qs)) text h))

  closing : (r : ℕ) → row r 1 ≡ r → row r 3 ≡ 29 → ltb r 29 ≡ true → (done : List Position) (text : List ℕ) →
      SpacedThen (λ rest. Accepts (state (a + 1) 0) (found done) rest ps) (token "]") text →
      Accepts (state a r) (found done) text ps
  unfolding class_of
  closing r e f l done text h =
      subst (λ (l : List ℕ). Accepts (state a r) (found done) l ps) (sym h.3)
      (blanks h.0 (93 ∷ h.1) (state a r) (found done) ps (ring_stays a place r e l) h.2
      (close a place r 93 h.1 (found done) (found done) ps f (close_walk done) h.4))

  pub whole_ring : (qs : List Pair) (text : List ℕ) →
      SpacedThen (SpacedThen (λ rest. Accepts (state (a + 1) 0) (found (map value_of qs)) rest ps)
      (token "]")) (ring_tokens qs) text →
      Accepts (state a 0) unwalked text ps
  whole_ring [] text h = closing 0 (row-0.of 1 (lit< tt)) (row-0.of 3 (lit< tt)) refl [] text h
  whole_ring (p ∷ qs) text h =
      ring p qs 0 (row-0.of 1 (lit< tt)) (row-0.of 2 (lit< tt)) refl [] text
      (onward (SpacedThen (λ rest. Accepts (state (a + 1) 0) (found (map value_of (p ∷ qs))) rest ps)
      (token "]")) (λ rest. Accepts (state a 1) (found (map value_of (p ∷ qs))) rest ps)
      (ring_tokens (p ∷ qs)) text
      (λ rest k. closing 1 (row-1.of 1 (lit< tt)) (row-1.of 3 (lit< tt)) refl (map value_of (p ∷ qs)) rest k) h)

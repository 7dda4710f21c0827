-- In the ring nothing but positions is read, with commas between them. Defined, in order: Skipped, Coordinates,
-- rest_tokens, Closed, Rest. Proved, in order: skip (white space), pair_sound, ring_rest_lem, pair_then, closes_ring,
-- next_sound, tail_sound, ring_sound. The ring's recursion is by the number of bytes left, which Fit carries.
use mathlib.Core.Path.{◌≡◌, refl, sym, ap, ◌∙◌, subst}
use mathlib.Core.Bool.{Bool, true, false}
use mathlib.Core.List.{List, [], ◌∷◌, ◌++◌}
use Prim.Native.Nat.{ℕ, zero, suc, ◌+◌, ◌≤◌}
use native.Mathlib.Omega.{arith}
use lib.Dec.{T, ltb}
use lib.ListN.{length}
use lib.Ieee.Fits.{and_i, and_r}
use Rattle.positions.proofs.Bytes.{are_bytes}
use Rattle.positions.proofs.Viable.{whole}
use Rattle.polygon_text.specs.Grammar.{all, is_blank, spelling, Pair, Tokens, token, pair_tokens, ring_tokens}
use Rattle.polygon_text.specs.Grammar.{SpacedThen}
use Rattle.polygon_text.proofs.Machine.{state}
use Rattle.polygon_text.proofs.Classes.{View}
use Rattle.polygon_text.proofs.Rows.{Row, row-0, row-1, row-2, Place, dead_class, back, by_class, alive_entry}
use Rattle.polygon_text.proofs.Complete.Steps.{blank_class}
use Rattle.polygon_text.proofs.Sound.Literal.{Good}
use Rattle.polygon_text.proofs.Sound.Numerals.{Fit, fit_tail, Taken, no_end, before_sound}

fit_less : (n b : ℕ) (bs : List ℕ) → Fit (suc n) (b ∷ bs) → Fit n bs
fit_less n b bs f = record {
  bytes = and_r (ltb b 256) (are_bytes bs) f.bytes;
  short = let h = f.short in omega arith;
}

module _ (a : ℕ) (place : Place a) (n : ℕ) where
  -- White space, and a byte that is none.
  abbrev Skipped : ℕ → List ℕ → Type 0
  Skipped r text =
      (blanks : List ℕ) × (b : ℕ) × (bs : List ℕ) × T (all is_blank blanks) × (text ≡ blanks ++ (b ∷ bs))
      × Taken a place n r (b ∷ bs) × (T (is_blank b) → ⊥)

  skip : (r : ℕ) {e0 e2 e3 e4 e5 e6 e7 e8 : ℕ} →
      Row r (e0 ∷ r ∷ e2 ∷ e3 ∷ e4 ∷ e5 ∷ e6 ∷ e7 ∷ e8 ∷ []) → ltb r 29 ≡ true → (text : List ℕ) →
      Taken a place n r text → Skipped r text
  skip r h l [] g = no_end a place n r g
  skip r h l (b ∷ bs) g = go (is_blank b) refl (λ t. skip r h l bs (fit_tail n b bs g.0, t))
    where
      go : (x : Bool) → is_blank b ≡ x → (T (whole (state a r) bs) → Skipped r bs) → Skipped r (b ∷ bs)
      go true e f =
          let t : T (is_blank b) = subst T (sym e) tt in
          let k = f (alive_entry a place r bs l (back a place r h b (View.blank t (blank_class b t)) bs g.1)) in (
            b ∷ k.0,
            k.1,
            k.2,
            and_i (is_blank b) (all is_blank k.0) t k.3,
            ap (λ (l : List ℕ). b ∷ l) k.4,
            k.5,
            k.6,
          )
      go false e f = ([], b, bs, tt, refl, g, λ t. subst T e t)

  -- After its `[`.
  abbrev pub Coordinates : List ℕ → Type 0
  Coordinates text =
      (p : Pair)
      × SpacedThen (Taken a place n 1) ((spelling p.first ∷ token ",") ++ (spelling p.second ∷ token "]")) text

  pub pair_sound : (text : List ℕ) → Taken a place n 3 text → Coordinates text
  pair_sound text g =
      let x = before_sound a place n false text g in
      let h = x.1 in
      let k = h.4 in
      let y = before_sound a place n true k.1 k.4 in (
        record { first = x.0; second = y.0 },
        (h.0, h.1, h.2, h.3, (k.0, k.1, k.2, k.3, y.1)),
      )

-- ---- rings

abbrev rest_tokens : List Pair → Tokens
rest_tokens [] = []
rest_tokens (q ∷ qs) = token "," ++ ring_tokens (q ∷ qs)

ring_rest_lem : (p : Pair) (qs : List Pair) → pair_tokens p ++ rest_tokens qs ≡ ring_tokens (p ∷ qs)
ring_rest_lem p [] = refl
ring_rest_lem p (q ∷ qs) = refl

module _ (a : ℕ) (place : Place a) where
  abbrev Closed : List ℕ → Type 0
  Closed = SpacedThen (Good (a + 1)) (token "]")

  abbrev Rest : List ℕ → Type 0
  Rest text = (qs : List Pair) × SpacedThen Closed (rest_tokens qs) text

  abbrev Ring : List ℕ → Type 0
  Ring text = (p : Pair) × (qs : List Pair) × SpacedThen Closed (ring_tokens (p ∷ qs)) text

  -- A position from its `[`, and the ring's rest behind it.
  pair_then : (n : ℕ) (text blanks : List ℕ) (b : ℕ) (bs : List ℕ) → T (all is_blank blanks) →
      text ≡ blanks ++ (b ∷ bs) → b ≡ 91 → Fit n (b ∷ bs) → T (whole (state a 3) bs) →
      ((text : List ℕ) → Taken a place n 1 text → Rest text) → Ring text
  pair_then n text blanks b bs u d e f t rest =
      let x = pair_sound a place n bs (fit_tail n b bs f, t) in
      let h = x.1 in
      let k = h.4 in
      let l = k.4 in
      let m = l.4 in
      let y = rest m.1 m.4 in (
        x.0,
        y.0,
        subst (λ (ts : Tokens). SpacedThen Closed ts text) (ring_rest_lem x.0 y.0) (
          blanks,
          bs,
          u,
          d ∙ (λ i. blanks ++ (e i ∷ bs)),
          (h.0, h.1, h.2, h.3, (k.0, k.1, k.2, k.3, (l.0, l.1, l.2, l.3, (m.0, m.1, m.2, m.3, y.1)))),
        ),
      )

  closes_ring : (n : ℕ) (text blanks : List ℕ) (b : ℕ) (bs : List ℕ) → T (all is_blank blanks) →
      text ≡ blanks ++ (b ∷ bs) → b ≡ 93 → Fit n (b ∷ bs) → T (whole (state (a + 1) 0) bs) → Closed text
  closes_ring n text blanks b bs u d e f t =
      (blanks, bs, u, d ∙ (λ i. blanks ++ (e i ∷ bs)), ((fit_tail n b bs f).bytes, t))

  -- After a comma between two positions.
  next_sound : (n : ℕ) (text : List ℕ) → Taken a place n 2 text → ((text : List ℕ) → Taken a place n 1 text → Rest text) →
      Ring text
  next_sound n text g rest =
      let k = skip a place n 2 row-2 refl text g in
      by_class a place 2 row-2 k.1 k.2 k.5.1 (λ t u. absurd (k.6 t))
      (λ e u. pair_then n text k.0 k.1 k.2 k.3 k.4 e k.5.0 u rest)
      dead_class dead_class dead_class dead_class dead_class dead_class

  -- After a position.
  tail_sound : (n : ℕ) (text : List ℕ) → Taken a place n 1 text → Rest text
  tail_sound zero [] g = no_end a place 0 1 g
  tail_sound zero (b ∷ bs) g = absurd (none (length bs) g.0.short)
    where
      none : (m : ℕ) → suc m ≤ 0 → ⊥
      none m h = omega arith
  tail_sound (suc n) text g =
      let k = skip a place (suc n) 1 row-1 refl text g in
      by_class a place 1 row-1 k.1 k.2 k.5.1 (λ t u. absurd (k.6 t)) dead_class
      (λ e u. ([], closes_ring (suc n) text k.0 k.1 k.2 k.3 k.4 e k.5.0 u))
      (λ e u.
      let x = next_sound n k.2 (fit_less n k.1 k.2 k.5.0, u) (tail_sound n) in
      (x.0 ∷ x.1, (k.0, k.2, k.3, k.4 ∙ (λ i. k.0 ++ (e i ∷ k.2)), x.2)))
      dead_class dead_class dead_class dead_class

  pub ring_sound : (text : List ℕ) → Good a text → (qs : List Pair) × SpacedThen Closed (ring_tokens qs) text
  ring_sound text g =
      let n = length text in
      let k = skip a place n 0 row-0 refl text (record { bytes = g.0; short = omega arith }, g.1) in
      by_class a place 0 row-0 k.1 k.2 k.5.1 (λ t u. absurd (k.6 t))
      (λ e u.
      let x = pair_then n text k.0 k.1 k.2 k.3 k.4 e k.5.0 u (tail_sound n) in
      (x.0 ∷ x.1, x.2))
      (λ e u. ([], closes_ring n text k.0 k.1 k.2 k.3 k.4 e k.5.0 u))
      dead_class dead_class dead_class dead_class dead_class

-- In the ring nothing but numbers is read where a number stands. Defined, in order: Fit (of bytes, and how long), Taken,
-- Ending, Decimals, Fraction, Wholes, Number. Proved, in order: behind, after-digit (a byte behind a digit);
-- blank-sound, decimals-sound, point-sound, zero-sound, whole-sound, unsigned-sound, signed-sound, before_sound.
use mathlib.Core.Path.{◌≡◌, refl, sym, ap, ◌∙◌, subst}
use mathlib.Core.Bool.{Bool, true, false, cond, ◌&&◌}
use mathlib.Core.List.{List, [], ◌∷◌, ◌++◌}
use Prim.Native.Nat.{ℕ, zero, suc, ◌-◌, ◌≤◌}
use native.Mathlib.Omega.{arith}
use lib.Dec.{T, leb, ltb, lit≤}
use lib.ListN.{length}
use lib.Ieee.Fits.{and_i, and_r}
use Rattle.positions.proofs.Bytes.{are_bytes}
use Rattle.positions.proofs.Viable.{whole}
use Rattle.polygon_text.specs.Grammar.{ascii, all, is_blank, is_digit, is_whole, Numeral, pointed, spelling, SpacedThen}
use Rattle.polygon_text.proofs.Machine.{state}
use Rattle.polygon_text.proofs.Classes.{digit_of_lem}
use Rattle.polygon_text.proofs.Rows.{Row, st, st_low, end, before_row_lem, signed_row_lem, zero_row, whole_row, point_row_lem}
use Rattle.polygon_text.proofs.Rows.{last_row, blank_row, decimal_row, Place, entry, dead_class, by_class}
use Rattle.polygon_text.proofs.Rows.{alive_entry}
use Rattle.polygon_text.proofs.Complete.Steps.{sep, exit}

-- Of bytes, at most n.
pub record Fit (n : ℕ) (text : List ℕ) : Type 0 where
  pub bytes : T (are_bytes text)
  pub short : length text ≤ n

pub fit_tail : (n b : ℕ) (bs : List ℕ) → Fit n (b ∷ bs) → Fit n bs
fit_tail n b bs f = record {
  bytes = and_r (ltb b 256) (are_bytes bs) f.bytes;
  short = let h = f.short in omega arith;
}

nought_digit : (b : ℕ) → b ≡ 48 → T (is_digit b)
nought_digit b e = subst (λ (x : ℕ). T (is_digit x)) (sym e) tt

module _ (a : ℕ) (place : Place a) (n : ℕ) where
  -- Read to its end, from the ring's state r on.
  abbrev pub Taken : ℕ → List ℕ → Type 0
  Taken r text = Fit n text × T (whole (state a r) text)

  pub no_end : {A : Type 0} (r : ℕ) → Taken r [] → A
  no_end r g = absurd (subst T place.no_end g.1)

  module _ (lat : Bool) where
    -- The byte behind a number, with white space before it.
    abbrev pub Ending : List ℕ → Type 0
    Ending = SpacedThen (Taken (exit lat)) ((sep lat ∷ []) ∷ [])

    alive : (k b : ℕ) (bs : List ℕ) → k ≤ 15 → Fit n (b ∷ bs) → T (entry a place (st lat k) bs) → Taken (st lat k) bs
    alive k b bs h f t = (fit_tail n b bs f, alive_entry a place (st lat k) bs (st_low lat k h) t)

    behind : {A : Type 0} (r d p : ℕ) → Row r (end lat d p) → (b : ℕ) (bs : List ℕ) → Taken r (b ∷ bs) →
        (T (is_blank b) → T (entry a place (st lat 15) bs) → A) →
        (b ≡ sep lat → T (entry a place (exit lat) bs) → A) → (T (is_digit b) → T (entry a place d bs) → A) →
        (b ≡ 46 → T (entry a place p bs) → A) → A
    behind {A} r d p h b bs g blank separated digit point =
        by_class a place r h b bs g.1 blank dead_class (closed lat refl) (parted lat refl) dead_class
        (λ e. digit (nought_digit b e)) (λ t. digit (digit_of_lem b t)) point
      where
        closed : (l : Bool) → l ≡ lat → b ≡ 93 → T (entry a place (cond l 1 30) bs) → A
        closed true e f t = separated (f ∙ ap sep e) (subst (λ (l : Bool). T (entry a place (exit l) bs)) e t)
        closed false e f t = absurd t

        parted : (l : Bool) → l ≡ lat → b ≡ 44 → T (entry a place (cond l 30 16) bs) → A
        parted true e f t = absurd t
        parted false e f t = separated (f ∙ ap sep e) (subst (λ (l : Bool). T (entry a place (exit l) bs)) e t)

    at-sep : (b : ℕ) (bs : List ℕ) → Fit n (b ∷ bs) → b ≡ sep lat → T (entry a place (exit lat) bs) → Ending (b ∷ bs)
    at-sep b bs f e t =
        ([], bs, tt, (λ i. e i ∷ bs), (fit_tail n b bs f, alive_entry a place (exit lat) bs (low lat) t))
      where
        low : (l : Bool) → ltb (exit l) 29 ≡ true
        low true = refl
        low false = refl

    at-blank : (b : ℕ) (bs : List ℕ) → T (is_blank b) → Ending bs → Ending (b ∷ bs)
    at-blank b bs t k =
        (b ∷ k.0, k.1, and_i (is_blank b) (all is_blank k.0) t k.2, ap (λ (l : List ℕ). b ∷ l) k.3, k.4)

    blank-sound : (text : List ℕ) → Taken (st lat 15) text → Ending text
    blank-sound [] g = no_end (st lat 15) g
    blank-sound (b ∷ bs) g =
        behind (st lat 15) 30 30 (blank_row lat) b bs g
        (λ t u. at-blank b bs t (blank-sound bs (alive 15 b bs (lit≤ tt) g.0 u))) (at-sep b bs g.0) dead_class
        dead_class

    -- Behind a digit: the number's end, a digit more, or the point.
    after-digit : {A : Type 0} (r d p : ℕ) → Row r (end lat d p) → (b : ℕ) (bs : List ℕ) → Taken r (b ∷ bs) →
        (Ending (b ∷ bs) → A) → (T (is_digit b) → T (entry a place d bs) → A) →
        (b ≡ 46 → T (entry a place p bs) → A) → A
    after-digit r d p h b bs g ended digit point =
        behind r d p h b bs g
        (λ t u. ended (at-blank b bs t (blank-sound bs (alive 15 b bs (lit≤ tt) g.0 u))))
        (λ e u. ended (at-sep b bs g.0 e u)) digit point

    -- ---- decimals

    abbrev Decimals : ℕ → List ℕ → Type 0
    Decimals j text =
        (ds : List ℕ) × (rest : List ℕ) × T (all is_digit ds) × (length ds ≤ j) × (text ≡ ds ++ rest) × Ending rest

    no_more : (j : ℕ) (text : List ℕ) → Ending text → Decimals j text
    no_more j text k = ([], text, tt, omega arith, refl, k)

    one_more : (j b : ℕ) (bs : List ℕ) → T (is_digit b) → Decimals j bs → Decimals (suc j) (b ∷ bs)
    one_more j b bs t k =
        let l = k.3 in (
          b ∷ k.0,
          k.1,
          and_i (is_digit b) (all is_digit k.0) t k.2,
          omega arith,
          ap (λ (l : List ℕ). b ∷ l) k.4,
          k.5,
        )

    -- At most j more.
    decimals-sound : (text : List ℕ) (j : ℕ) → j ≤ 6 → Taken (st lat (14 - j)) text → Decimals j text
    decimals-sound [] j h g = no_end (st lat (14 - j)) g
    decimals-sound (b ∷ bs) zero h g =
        after-digit (st lat 14) 30 30 (last_row lat) b bs g (no_more 0 (b ∷ bs)) dead_class dead_class
    decimals-sound (b ∷ bs) (suc j) h g =
        after-digit (st lat (14 - suc j)) (st lat (14 - j)) 30 (decimal_row lat j h) b bs g (no_more (suc j) (b ∷ bs))
        (λ t u. one_more j b bs t
        (decimals-sound bs j (omega arith) (alive (14 - j) b bs (omega arith) g.0 u))) dead_class

    abbrev Fraction : List ℕ → Type 0
    Fraction text =
        (es : List ℕ) × (rest : List ℕ) × T (all is_digit es) × (length es ≤ 7) × (text ≡ pointed es ++ rest)
        × Ending rest

    none : (text : List ℕ) → Ending text → Fraction text
    none text k = ([], text, tt, omega arith, refl, k)

    some : (b : ℕ) (bs : List ℕ) → T (is_digit b) → Decimals 6 bs → Fraction (46 ∷ b ∷ bs)
    some b bs t k =
        let l = k.3 in (
          b ∷ k.0,
          k.1,
          and_i (is_digit b) (all is_digit k.0) t k.2,
          omega arith,
          ap (λ (l : List ℕ). 46 ∷ b ∷ l) k.4,
          k.5,
        )

    point-sound : (text : List ℕ) → Taken (st lat 7) text → Fraction (46 ∷ text)
    point-sound [] g = no_end (st lat 7) g
    point-sound (b ∷ bs) g =
        by_class a place (st lat 7) (point_row_lem lat) b bs g.1 dead_class dead_class dead_class dead_class dead_class
        (λ e. more (nought_digit b e)) (λ t. more (digit_of_lem b t)) dead_class
      where
        more : T (is_digit b) → T (entry a place (st lat 8) bs) → Fraction (46 ∷ b ∷ bs)
        more t u = some b bs t (decimals-sound bs 6 (omega arith) (alive 8 b bs (lit≤ tt) g.0 u))

    pointed-sound : (b : ℕ) (bs : List ℕ) → Fit n (b ∷ bs) → b ≡ 46 → T (entry a place (st lat 7) bs) →
        Fraction (b ∷ bs)
    pointed-sound b bs f e u =
        subst (λ (x : ℕ). Fraction (x ∷ bs)) (sym e) (point-sound bs (alive 7 b bs (lit≤ tt) f u))

    zero-sound : (text : List ℕ) → Taken (st lat 5) text → Fraction text
    zero-sound [] g = no_end (st lat 5) g
    zero-sound (b ∷ bs) g =
        after-digit (st lat 5) 30 (st lat 7) (zero_row lat) b bs g (none (b ∷ bs)) dead_class
        (pointed-sound b bs g.0)

    -- ---- digits before the point

    abbrev Wholes : (List ℕ → Bool) → List ℕ → Type 0
    Wholes fit text =
        (ds : List ℕ) × (es : List ℕ) × (rest : List ℕ) × T (fit ds) × T (all is_digit es) × (length es ≤ 7)
        × (text ≡ ds ++ pointed es ++ rest) × Ending rest

    only : (text : List ℕ) → Fraction text → Wholes (all is_digit) text
    only text k = ([], k.0, k.1, tt, k.2, k.3, k.4, k.5)

    -- A digit in front.
    with-digit : (fit : List ℕ → Bool) (b : ℕ) (bs : List ℕ) → ((ds : List ℕ) → T (all is_digit ds) → T (fit (b ∷ ds))) →
        Wholes (all is_digit) bs → Wholes fit (b ∷ bs)
    with-digit fit b bs f k =
        (b ∷ k.0, k.1, k.2, f k.0 k.3, k.4, k.5, ap (λ (l : List ℕ). b ∷ l) k.6, k.7)

    whole-sound : (text : List ℕ) → Taken (st lat 6) text → Wholes (all is_digit) text
    whole-sound [] g = no_end (st lat 6) g
    whole-sound (b ∷ bs) g =
        after-digit (st lat 6) (st lat 6) (st lat 7) (whole_row lat) b bs g (λ k. only (b ∷ bs) (none (b ∷ bs) k))
        (λ t u. with-digit (all is_digit) b bs (λ ds v. and_i (is_digit b) (all is_digit ds) t v)
        (whole-sound bs (alive 6 b bs (lit≤ tt) g.0 u)))
        (λ e u. only (b ∷ bs) (pointed-sound b bs g.0 e u))

    from-nought : (b : ℕ) (bs : List ℕ) → Fit n (b ∷ bs) → b ≡ 48 → T (entry a place (st lat 5) bs) →
        Wholes is_whole (b ∷ bs)
    from-nought b bs f e u =
        let k = zero-sound bs (alive 5 b bs (lit≤ tt) f u) in
        (48 ∷ [], k.0, k.1, tt, k.2, k.3, (λ i. e i ∷ k.4 i), k.5)

    from-digit : (b : ℕ) (bs : List ℕ) → Fit n (b ∷ bs) → T (leb 49 b && leb b 57) → T (entry a place (st lat 6) bs) →
        Wholes is_whole (b ∷ bs)
    from-digit b bs f t u = with-digit is_whole b bs fit (whole-sound bs (alive 6 b bs (lit≤ tt) f u))
      where
        fit : (ds : List ℕ) → T (all is_digit ds) → T (is_whole (b ∷ ds))
        fit [] v = digit_of_lem b t
        fit (c ∷ cs) v = and_i (leb 49 b && leb b 57) (all is_digit (c ∷ cs)) t v

    signed-sound : (text : List ℕ) → Taken (st lat 4) text → Wholes is_whole text
    signed-sound [] g = no_end (st lat 4) g
    signed-sound (b ∷ bs) g =
        by_class a place (st lat 4) (signed_row_lem lat) b bs g.1 dead_class dead_class dead_class dead_class dead_class
        (from-nought b bs g.0) (from-digit b bs g.0) dead_class

    -- ---- the number, with white space before it

    abbrev pub Number : List ℕ → Type 0
    Number text = (x : Numeral) × SpacedThen Ending (spelling x ∷ []) text

    number : (minus : Bool) (text : List ℕ) → Wholes is_whole text → Number (cond minus (ascii "-") [] ++ text)
    number minus text k = (
      record {
        minus = minus;
        whole = k.0;
        decimals = k.1;
        whole_fit = k.3;
        decimals_fit = k.4;
        few = k.5;
      },
      ([], k.2, tt, same minus, k.7),
    )
      where
        same : (minus : Bool) →
            cond minus (ascii "-") [] ++ text ≡ (cond minus (ascii "-") [] ++ k.0 ++ pointed k.1) ++ k.2
        same true = ap (λ (l : List ℕ). 45 ∷ l) k.6
        same false = k.6

    spaced : (b : ℕ) (bs : List ℕ) → T (is_blank b) → Number bs → Number (b ∷ bs)
    spaced b bs t k =
        let h = k.1 in (
          k.0,
          (b ∷ h.0, h.1, and_i (is_blank b) (all is_blank h.0) t h.2, ap (λ (l : List ℕ). b ∷ l) h.3, h.4),
        )

    pub before_sound : (text : List ℕ) → Taken (st lat 3) text → Number text
    before_sound [] g = no_end (st lat 3) g
    before_sound (b ∷ bs) g =
        by_class a place (st lat 3) (before_row_lem lat) b bs g.1
        (λ t u. spaced b bs t (before_sound bs (alive 3 b bs (lit≤ tt) g.0 u))) dead_class dead_class dead_class
        (λ e u. subst (λ (x : ℕ). Number (x ∷ bs)) (sym e)
        (number true bs (signed-sound bs (alive 4 b bs (lit≤ tt) g.0 u))))
        (λ e u. number false (b ∷ bs) (from-nought b bs g.0 e u))
        (λ t u. number false (b ∷ bs) (from-digit b bs g.0 t u)) dead_class

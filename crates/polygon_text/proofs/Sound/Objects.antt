-- The object's tokens, and nothing else, are read. Defined: Key. Proved, in order: end_sound, key_sound, head_sound,
-- tail_sound; spelled (a text that is read is a polygon's).
use mathlib.Core.Path.{◌≡◌, refl, sym, ap, ◌∙◌, subst}
use mathlib.Core.Bool.{Bool, true, false, not, ◌&&◌}
use mathlib.Core.List.{List, [], ◌∷◌, ◌++◌}
use Prim.Native.Nat.{ℕ, ◌+◌, ◌*◌, ◌<◌}
use native.Mathlib.Omega.{arith}
use borrow.Author.Tests.{ne_eqb}
use lib.Dec.{T, eqb, ltb, eqb→eq}
use lib.Ieee.Fits.{and_i, and_r}
use Rattle.positions.specs.declared.grammar.State.{State}
use Rattle.positions.specs.Text.{words, gaps, class_of, pick, dead, next_of, literal}
use Rattle.positions.proofs.Bytes.{are_bytes}
use Rattle.positions.proofs.Viable.{whole}
use Rattle.polygon_text.specs.Grammar.{ascii, all, is_blank, Pair, Tokens, token, ring_tokens}
use Rattle.polygon_text.specs.Grammar.{Order, TypeFirst, CoordinatesFirst, object_tokens, SpacedThen, Spaced}
use Rattle.polygon_text.proofs.Machine.{state}
use Rattle.polygon_text.proofs.Classes.{sort, only_blank}
use Rattle.polygon_text.proofs.Tokens.{onward, joined, reached}
use Rattle.polygon_text.proofs.Complete.Objects.{body_of, head_of, tail_of, place_of, end_of, placed, object_shape}
use Rattle.polygon_text.proofs.Sound.Literal.{Good, head_byte, inner_sound, spells_sound, tokens_sound}
use Rattle.polygon_text.proofs.Sound.Rings.{ring_sound}

-- ---- the end

next_end : (o : Order) (b : ℕ) → b < 256 → next_of (state (end_of o) 0) b
    ≡ pick (eqb (1 * class_of b) 1) (state (end_of o) 0) dead
unfolding next_of literal words gaps
next_end TypeFirst b h = rw (ne_eqb 257 b (λ e. omega arith), ne_eqb (9472 + b) 611 (λ e. omega arith))
next_end CoordinatesFirst b h = rw (ne_eqb 257 b (λ e. omega arith), ne_eqb (19200 + b) 611 (λ e. omega arith))

end_sound : (o : Order) (text : List ℕ) → Good (end_of o) text → T (all is_blank text)
end_sound o [] g = tt
end_sound o (b ∷ bs) g =
    go (eqb (1 * class_of b) 1) refl
    (subst (λ (n : State). T (not (eqb n.at 76) && whole n bs))
    (next_end o b (head_byte b bs g.0)) g.1)
    (λ t. end_sound o bs (and_r (ltb b 256) (are_bytes bs) g.0, t))
  where
    go : (x : Bool) → eqb (1 * class_of b) 1 ≡ x →
        T (not (eqb (pick x (state (end_of o) 0) dead).at 76)
        && whole (pick x (state (end_of o) 0) dead) bs) →
        (T (whole (state (end_of o) 0) bs) → T (all is_blank bs)) → T (all is_blank (b ∷ bs))
    go true e t f =
        let u : 1 * class_of b ≡ 1 = eqb→eq (1 * class_of b) 1 (subst T (sym e) tt) in
        and_i (is_blank b) (all is_blank bs) (only_blank b (sort b) (omega arith))
        (f (and_r (not (eqb (end_of o) 76)) (whole (state (end_of o) 0) bs) t))
    go false e t f = absurd t

-- ---- the first key

data Key (text : List ℕ) : Type 0 where
  type_key : (bs : List ℕ) → text ≡ 116 ∷ bs → Good 3 bs → Key text
  coordinates_key : (bs : List ℕ) → text ≡ 99 ∷ bs → Good 41 bs → Key text

next_key : (b : ℕ) → b < 256 → next_of (state 2 0) b
    ≡ pick (eqb 116 b) (state 3 0) (pick (eqb (512 + b) 611) (state 41 0) dead)
unfolding next_of literal words gaps
next_key b h = rw (ne_eqb (0 * class_of b) 1 (λ e. omega arith))

key_sound : (text : List ℕ) → Good 2 text → Key text
key_sound [] g = absurd g.1
key_sound (b ∷ bs) g =
    go (eqb 116 b) refl (eqb (512 + b) 611) refl
    (subst (λ (n : State). T (not (eqb n.at 76) && whole n bs))
    (next_key b (head_byte b bs g.0)) g.1)
  where
    go : (x : Bool) → eqb 116 b ≡ x → (y : Bool) → eqb (512 + b) 611 ≡ y →
        T (not (eqb (pick x (state 3 0) (pick y (state 41 0) dead)).at 76)
        && whole (pick x (state 3 0) (pick y (state 41 0) dead)) bs) →
        Key (b ∷ bs)
    go true e y f t =
        type_key bs (λ i. sym (eqb→eq 116 b (subst T (sym e) tt)) i ∷ bs) (and_r (ltb b 256) (are_bytes bs) g.0, t)
    go false e true f t =
        let u = eqb→eq (512 + b) 611 (subst T (sym f) tt) in
        let v : b ≡ 99 = omega arith in
        coordinates_key bs (λ i. v i ∷ bs) (and_r (ltb b 256) (are_bytes bs) g.0, t)
    go false e false f t = absurd t

head_sound : (text : List ℕ) → Good 0 text → (o : Order) × SpacedThen (Good (place_of o)) (head_of o) text
unfolding words gaps
head_sound text g =
    let x = spells_sound text (ascii "{") 0 tt g in
    let y = spells_sound x.1 (ascii "\"") 1 tt x.4 in
    let k = go x.1 y.0 y.1 y.2 y.3 (key_sound y.1 y.4) in
    (k.0, (x.0, x.1, x.2, x.3, k.1))
  where
    go : (text blanks rest : List ℕ) → T (all is_blank blanks) → text ≡ blanks ++ (34 ∷ rest) → Key rest →
        (o : Order) × SpacedThen (Good (place_of o)) (body_of o) text
    go text blanks rest t e (type_key bs f h) =
        let z = inner_sound (ascii "ype\"") 3 bs tt h in (
          TypeFirst,
          (
            blanks,
            z.0,
            t,
            e ∙ ap (λ (l : List ℕ). blanks ++ (34 ∷ l)) (f ∙ ap (λ (l : List ℕ). 116 ∷ l) z.1),
            tokens_sound (token ":" ++ token "\"Polygon\"" ++ token "," ++ token "\"coordinates\"" ++ token ":"
                ++ token "[" ++ token "[") 7 z.0 tt z.2,
          ),
        )
    go text blanks rest t e (coordinates_key bs f h) =
        let z = inner_sound (ascii "oordinates\"") 41 bs tt h in (
          CoordinatesFirst,
          (
            blanks,
            z.0,
            t,
            e ∙ ap (λ (l : List ℕ). blanks ++ (34 ∷ l)) (f ∙ ap (λ (l : List ℕ). 99 ∷ l) z.1),
            tokens_sound (token ":" ++ token "[" ++ token "[") 52 z.0 tt z.2,
          ),
        )

-- ---- the whole text

tail_sound : (o : Order) (text : List ℕ) → Good (place_of o + 1) text → Spaced (tail_of o) text
unfolding words gaps
tail_sound TypeFirst text g =
    onward (Good 37) (λ rest. T (all is_blank rest)) (tail_of TypeFirst) text (end_sound TypeFirst)
    (tokens_sound (tail_of TypeFirst) 35 text tt g)
tail_sound CoordinatesFirst text g =
    onward (Good 75) (λ rest. T (all is_blank rest)) (tail_of CoordinatesFirst) text (end_sound CoordinatesFirst)
    (tokens_sound (tail_of CoordinatesFirst) 56 text tt g)

pub spelled : (text : List ℕ) → Good 0 text → (o : Order) × (qs : List Pair) × Spaced (object_tokens o qs) text
spelled text g =
    let x = head_sound text g in
    let o = x.0 in
    let r = reached (Good (place_of o)) (head_of o) text x.1 in
    let y = ring_sound (place_of o) (placed o) r.0 r.1 in
    let qs = y.0 in
    let Blank : List ℕ → Type 0 = λ rest. T (all is_blank rest) in (
      o,
      qs,
      subst (λ (ts : Tokens). Spaced ts text) (sym (object_shape o qs))
          (joined Blank (head_of o) (ring_tokens qs ++ (token "]" ++ tail_of o)) text
          (r.2 (Spaced (ring_tokens qs ++ (token "]" ++ tail_of o)))
          (joined Blank (ring_tokens qs) (token "]" ++ tail_of o) r.0
          (onward (SpacedThen (Good (place_of o + 1)) (token "]")) (Spaced (token "]" ++ tail_of o)) (ring_tokens qs) r.0
          (λ rest k. joined Blank (token "]") (tail_of o) rest
          (onward (Good (place_of o + 1)) (Spaced (tail_of o)) (token "]") rest (tail_sound o) k)) y.1)))),
    )

-- The object is read, in either order of its members. Defined, in order: body_of, head_of, tail_of (the tokens before and
-- after the ring), place_of, end_of (the states there). Proved, in order: placed, object_shape; at_end, tail, head;
-- complete, which is the claim PolygonsRead.
use mathlib.Core.Path.{◌≡◌, refl, ap, ◌∙◌, subst}
use mathlib.Core.List.{List, [], ◌++◌, map, append_assoc, append-nil}
use Prim.Native.Nat.{ℕ, ◌+◌}
use lib.Dec.{T}
use Rattle.angles.specs.declared.point.Position.{Position}
use Rattle.positions.specs.Text.{words, gaps, class_of, next_of, ring_next, literal, start}
use Rattle.positions.specs.Number.{pending_of, is_end, is_digit, stepped, positions_of}
use Rattle.positions.specs.Claims.{IsText}
use Rattle.polygon_text.specs.Grammar.{all, is_blank, Pair, value_of, Tokens, token, ring_tokens, type_member}
use Rattle.polygon_text.specs.Grammar.{Order, TypeFirst, CoordinatesFirst, object_tokens, SpacedThen, Spaced}
use Rattle.polygon_text.specs.Grammar.{IsPolygon}
use Rattle.polygon_text.proofs.Machine.{state, unwalked, Accepts, accepted_text, Stays, blanks}
use Rattle.polygon_text.proofs.Tokens.{onward, split}
use Rattle.polygon_text.proofs.Complete.Literal.{segment, stays_at}
use Rattle.polygon_text.proofs.Rows.{Place}
use Rattle.polygon_text.proofs.Complete.Rings.{found, whole_ring}

abbrev pub body_of : Order → Tokens
body_of TypeFirst = type_member ++ token "," ++ token "\"coordinates\"" ++ token ":" ++ token "[" ++ token "["
body_of CoordinatesFirst = token "\"coordinates\"" ++ token ":" ++ token "[" ++ token "["

-- Up to the ring's `[`.
abbrev pub head_of : Order → Tokens
head_of order = token "{" ++ body_of order

-- After the ring's own `]`.
abbrev pub tail_of : Order → Tokens
tail_of TypeFirst = token "]" ++ token "}"
tail_of CoordinatesFirst = token "]" ++ token "," ++ type_member ++ token "}"

abbrev pub place_of : Order → ℕ
place_of TypeFirst = 34
place_of CoordinatesFirst = 55

abbrev pub end_of : Order → ℕ
end_of TypeFirst = 37
end_of CoordinatesFirst = 75

pub placed : (order : Order) → Place (place_of order)
unfolding words
placed TypeFirst = record { ring = refl; live = refl; next = refl; no_end = refl }
placed CoordinatesFirst = record { ring = refl; live = refl; next = refl; no_end = refl }

regrouped : (r a b c d e : Tokens) → r ++ a ++ b ++ c ++ d ++ e ≡ r ++ (a ++ (b ++ (c ++ (d ++ e))))
regrouped r a b c d e = simp append_assoc

pub object_shape : (order : Order) (qs : List Pair) →
    object_tokens order qs ≡ head_of order ++ (ring_tokens qs ++ (token "]" ++ tail_of order))
object_shape TypeFirst qs = simp append_assoc
object_shape CoordinatesFirst qs =
    ap (λ (ts : Tokens). head_of CoordinatesFirst ++ ts)
    (regrouped (ring_tokens qs) (token "]") (token "]") (token ",") type_member (token "}"))

module _ (ps : List Position) where
  at_end : (order : Order) (rest : List ℕ) → T (all is_blank rest) →
      Accepts (state (end_of order) 0) (found ps) rest ps
  unfolding words gaps class_of next_of literal ring_next
  at_end order rest t =
      subst (λ (l : List ℕ). Accepts (state (end_of order) 0) (found ps) l ps) (append-nil rest)
      (blanks rest [] (state (end_of order) 0) (found ps) ps (stays order) t (ends order))
    where
      stays : (order : Order) → Stays (state (end_of order) 0)
      stays TypeFirst = stays_at (state 37 0) tt
      stays CoordinatesFirst = stays_at (state 75 0) tt

      ends : (order : Order) → Accepts (state (end_of order) 0) (found ps) [] ps
      ends TypeFirst = (tt, refl)
      ends CoordinatesFirst = (tt, refl)

  tail : (order : Order) (text : List ℕ) → Spaced (tail_of order) text →
      Accepts (state (place_of order + 1) 0) (found ps) text ps
  unfolding words gaps class_of next_of literal ring_next stepped is_end pending_of is_digit
  tail TypeFirst text h =
      segment (tail_of TypeFirst) (state 35 0) (found ps) ps text tt
      (onward (λ rest. T (all is_blank rest)) (λ rest. Accepts (state 37 0) (found ps) rest ps)
      (tail_of TypeFirst) text (at_end TypeFirst) h)
  tail CoordinatesFirst text h =
      segment (tail_of CoordinatesFirst) (state 56 0) (found ps) ps text tt
      (onward (λ rest. T (all is_blank rest)) (λ rest. Accepts (state 75 0) (found ps) rest ps)
      (tail_of CoordinatesFirst) text (at_end CoordinatesFirst) h)

  head : (order : Order) (text : List ℕ) →
      SpacedThen (λ rest. Accepts (state (place_of order) 0) unwalked rest ps) (head_of order) text →
      Accepts start unwalked text ps
  unfolding words gaps class_of next_of literal ring_next stepped is_end pending_of is_digit
  head TypeFirst text h = segment (head_of TypeFirst) start unwalked ps text tt h
  head CoordinatesFirst text h = segment (head_of CoordinatesFirst) start unwalked ps text tt h

pub complete : (text : List ℕ) (ps : List Position) → IsPolygon text ps → IsText text × (positions_of text ≡ ps)
complete text ps h =
    let qs = h.ring in
    let o = h.order in
    let Blank : List ℕ → Type 0 = λ rest. T (all is_blank rest) in
    let g = subst (λ (ts : Tokens). Spaced ts text) (object_shape o qs) h.spelled in
    let f = accepted_text text (map value_of qs)
    (head (map value_of qs) o text
    (onward (Spaced (ring_tokens qs ++ (token "]" ++ tail_of o)))
    (λ rest. Accepts (state (place_of o) 0) unwalked rest (map value_of qs)) (head_of o) text
    (λ rest k. whole_ring (place_of o) (placed o) (map value_of qs) qs rest
    (onward (Spaced (token "]" ++ tail_of o))
    (SpacedThen (λ rest. Accepts (state (place_of o + 1) 0) (found (map value_of qs)) rest (map value_of qs))
    (token "]")) (ring_tokens qs) rest
    (λ rest k. onward (Spaced (tail_of o))
    (λ rest. Accepts (state (place_of o + 1) 0) (found (map value_of qs)) rest (map value_of qs))
    (token "]") rest (tail (map value_of qs) o) (split Blank (token "]") (tail_of o) rest k))
    (split Blank (ring_tokens qs) (token "]" ++ tail_of o) rest k)))
    (split Blank (head_of o) (ring_tokens qs ++ (token "]" ++ tail_of o)) text g))) in
    (f.0, f.1 ∙ h.values)

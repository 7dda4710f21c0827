-- The bytes of a sheet, stored field by field. Proved, in order: field_stored, word_bytes_length, field_bytes-length,
-- second_bytes-length, sheet_stored, sheet_bytes-length.
use mathlib.Core.Path.{◌≡◌, refl, ap, ◌∙◌}
use mathlib.Core.Bool.{Bool, true, false, cond}
use mathlib.Core.List.{List, [], ◌∷◌, ◌++◌}
use Prim.Native.Nat.{ℕ, ◌+◌, ◌*◌}
use native.Mathlib.Omega.{arith}
use lib.IntN.{ℤ}
use lib.ListN.{length, length-append}
use lib.Seq.{sets}
use Rattle.sphere.specs.declared.point.Point.{Point}
use Rattle.sphere.specs.declared.point.Grid.{Grid}
use Rattle.sphere.specs.Point.{is_null}
use Rattle.big_endian.specs.Bytes.{short_bytes, word_bytes, ints_bytes, numbers_of, point_bytes}
use Rattle.big_endian.proofs.Laws.Stores.{stored_on, ints_bytes-length}
use Rattle.fields.specs.Fields.{tag_of}
use Rattle.sheet.specs.Write.{field_bytes, second_bytes, second_size, sheet_bytes, bytes_needed}

-- The head, then the body right behind it.
pub field_stored :
    (l : List ℕ) (at next tag n : ℕ) (body : List ℕ) → next ≡ at + 3 → n ≡ length body →
    sets (sets l at (tag ∷ short_bytes n)) next body ≡ sets l at (field_bytes tag body)
unfolding field_bytes short_bytes
field_stored l at next tag n body e m = rw m (stored_on l at next (tag ∷ short_bytes (length body)) body (omega arith))

pub word_bytes_length : (n : ℕ) → length (word_bytes n) ≡ 4
unfolding word_bytes
word_bytes_length n = refl

pub field_bytes-length : (tag : ℕ) (body : List ℕ) → length (field_bytes tag body) ≡ 3 + length body
unfolding field_bytes short_bytes
field_bytes-length tag body = omega arith

pub second_bytes-length : (second : Point) → length (second_bytes second) ≡ second_size second
unfolding second_bytes second_size
second_bytes-length second = go (is_null second)
  where
    go : (none : Bool) → length (cond none [] (field_bytes 6 (point_bytes second))) ≡ cond none 0 15
    go true = refl
    go false =
        field_bytes-length 6 (point_bytes second) ∙ ap (λ (n : ℕ). 3 + n) (ints_bytes-length (numbers_of second))

pub ruleset stored = (field_stored, word_bytes_length, ints_bytes-length)

-- The fields, one behind the other, and the length of them all.
module _ (zone charset : ℕ) (name : List ℕ) (known : Point) (g : Grid) (vertices : List ℤ) (second : Point) where
  pub sheet_stored :
      (l : List ℕ) (known_at_lem vertices_at second_at : ℕ) → known_at_lem ≡ 14 + length name → vertices_at ≡ known_at_lem + 15 →
      second_at ≡ known_at_lem + 18 + length vertices * 4 →
      let one = sets l 0 (field_bytes 1 (word_bytes zone)) in
      let two = sets one 7 (field_bytes 2 (charset ∷ [])) in
      let three = sets two 11 (field_bytes 3 name) in
      let four = sets three known_at_lem (field_bytes 4 (point_bytes known)) in
      let five = sets four vertices_at (field_bytes (tag_of g) (ints_bytes vertices)) in
      sets five second_at (second_bytes second) ≡ sets l 0 (sheet_bytes zone charset name known g vertices second)
  unfolding sheet_bytes
  sheet_stored l known_at_lem vertices_at second_at p q r =
      let f1 = field_bytes 1 (word_bytes zone) in
      let f2 = field_bytes 2 (charset ∷ []) in
      let f3 = field_bytes 3 name in
      let f4 = field_bytes 4 (point_bytes known) in
      let f5 = field_bytes (tag_of g) (ints_bytes vertices) in
      let f6 = second_bytes second in
      let a : length f1 ≡ 7 = field_bytes-length 1 (word_bytes zone) ∙ ap (λ (n : ℕ). 3 + n) (word_bytes_length zone) in
      let b : length f2 ≡ 4 = field_bytes-length 2 (charset ∷ []) in
      let c : length f3 ≡ 3 + length name = field_bytes-length 3 name in
      let d = field_bytes-length 4 (point_bytes known) ∙ ap (λ (n : ℕ). 3 + n) (ints_bytes-length (numbers_of known)) in
      let e = field_bytes-length (tag_of g) (ints_bytes vertices) ∙ ap (λ (n : ℕ). 3 + n) (ints_bytes-length vertices) in
      stored_on (sets (sets (sets (sets l 0 f1) 7 f2) 11 f3) known_at_lem f4) vertices_at second_at f5 f6 (omega arith)
      ∙ stored_on (sets (sets (sets l 0 f1) 7 f2) 11 f3) known_at_lem vertices_at f4 (f5 ++ f6) (omega arith)
      ∙ stored_on (sets (sets l 0 f1) 7 f2) 11 known_at_lem f3 (f4 ++ (f5 ++ f6)) (omega arith)
      ∙ stored_on (sets l 0 f1) 7 11 f2 (f3 ++ (f4 ++ (f5 ++ f6))) (omega arith)
      ∙ stored_on l 0 7 f1 (f2 ++ (f3 ++ (f4 ++ (f5 ++ f6)))) (omega arith)

  pub sheet_bytes-length : length (sheet_bytes zone charset name known g vertices second)
      ≡ bytes_needed name vertices second
  unfolding sheet_bytes
  sheet_bytes-length =
      let w = word_bytes_length zone in
      let p = ints_bytes-length (numbers_of known) in
      let v = ints_bytes-length vertices in
      let s = second_bytes-length second in
      simp (length-append, field_bytes-length) (omega arith)

-- Storing a row of bytes, a part a turn.
-- Proved, in order: stored_on, int_bytes-length, ints_bytes-length, ints_bytes-append, bytes_more, ints_more,
-- point_stored_lem.
use mathlib.Core.Path.{◌≡◌, refl, sym, ap, ◌∙◌}
use mathlib.Core.List.{List, [], ◌∷◌, ◌++◌, append_assoc, append-nil}
use Prim.Native.Nat.{ℕ, suc, ◌+◌, ◌*◌, ◌<◌}
use native.Mathlib.Numerals.{add-one}
use native.Mathlib.Omega.{arith}
use lib.IntN.{ℤ, pos}
use lib.ListN.{length, get_or, take, set, length-append}
use lib.Seq.{sets, take-suc, length-take-le}
use Rattle.big_endian.specs.Bytes.{word_bytes, int_bytes, ints_bytes}

-- What is stored right behind xs goes on from it.
pub stored_on :
    (l : List ℕ) (at next : ℕ) (xs ys : List ℕ) → next ≡ at + length xs →
    sets (sets l at xs) next ys ≡ sets l at (xs ++ ys)
stored_on l at next [] ys e = let p : next ≡ at = omega arith in ap (λ (k : ℕ). sets l k ys) p
stored_on l at next (x ∷ xs) ys e = stored_on (set l at x) (suc at) next xs ys (omega arith)

pub int_bytes-length : (z : ℤ) → length (int_bytes z) ≡ 4
unfolding int_bytes word_bytes
int_bytes-length z = refl

pub ints_bytes-length : (zs : List ℤ) → length (ints_bytes zs) ≡ length zs * 4
unfolding ints_bytes
ints_bytes-length [] = refl
ints_bytes-length (z ∷ zs) =
    length-append (int_bytes z) (ints_bytes zs) ∙ omega (arith, int_bytes-length z, ints_bytes-length zs)

pub ints_bytes-append : (xs ys : List ℤ) → ints_bytes (xs ++ ys) ≡ ints_bytes xs ++ ints_bytes ys
unfolding ints_bytes
ints_bytes-append [] ys = refl
ints_bytes-append (x ∷ xs) ys =
    ap (λ (l : List ℕ). int_bytes x ++ l) (ints_bytes-append xs ys)
    ∙ sym (append_assoc (int_bytes x) (ints_bytes xs) (ints_bytes ys))

-- A turn of the loop that stores bytes, and of the one that stores numbers.
pub bytes_more :
    (l : List ℕ) (at i : ℕ) (row : List ℕ) → i < length row →
    set (sets l at (take i row)) (at + i) (get_or row i 0) ≡ sets l at (take (i + 1) row)
bytes_more l at i row h =
    let n : length (take i row) ≡ i = length-take-le i row (omega arith) in
    rw (add-one, take-suc row i 0) (stored_on l at (at + i) (take i row) (get_or row i 0 ∷ []) (omega arith))

pub ints_more :
    (l : List ℕ) (at i : ℕ) (row : List ℤ) → i < length row →
    sets (sets l at (ints_bytes (take i row))) (at + i * 4) (int_bytes (get_or row i (pos 0)))
    ≡ sets l at (ints_bytes (take (i + 1) row))
unfolding ints_bytes
ints_more l at i row h =
    let z = get_or row i (pos 0) in
    let n : length (take i row) ≡ i = length-take-le i row (omega arith) in
    let k : at + i * 4 ≡ at + length (ints_bytes (take i row)) = omega (arith, ints_bytes-length (take i row)) in
    stored_on l at (at + i * 4) (ints_bytes (take i row)) (int_bytes z) k
    ∙ ap (λ (ys : List ℕ). sets l at (ints_bytes (take i row) ++ ys)) (sym (append-nil (int_bytes z)))
    ∙ ap (sets l at) (sym (ints_bytes-append (take i row) (z ∷ [])))
    ∙ ap (λ (zs : List ℤ). sets l at (ints_bytes zs))
    (sym (take-suc row i (pos 0) h) ∙ ap (λ (m : ℕ). take m row) (sym (add-one i)))

-- Three numbers stored one behind the other.
pub point_stored_lem :
    (l : List ℕ) (at : ℕ) (x y z : ℤ) →
    sets (sets (sets l at (int_bytes x)) (at + 4) (int_bytes y)) (at + 8) (int_bytes z)
    ≡ sets l at (ints_bytes (x ∷ y ∷ z ∷ []))
unfolding ints_bytes
point_stored_lem l at x y z =
    let k = int_bytes-length x in
    let m = int_bytes-length y in
    stored_on (sets l at (int_bytes x)) (at + 4) (at + 8) (int_bytes y) (int_bytes z) (omega arith)
    ∙ stored_on l at (at + 4) (int_bytes x) (int_bytes y ++ int_bytes z) (omega arith)
    ∙ ap (λ (t : List ℕ). sets l at (int_bytes x ++ (int_bytes y ++ t))) (sym (append-nil (int_bytes z)))

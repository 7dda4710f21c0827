-- What was written is read: a list b that goes on, from `at`, with the bytes of a number, has that number at `at`.
-- Proved, in order: byte_written, first_written, short_written, word_written, signed_word_of, word_of_bound,
-- int_written, ints_written, point_written.
use mathlib.Core.Path.{◌≡◌, refl, sym, ap, ap₂, ◌∙◌}
use mathlib.Core.List.{List, [], ◌∷◌, ◌++◌, append_assoc}
use Prim.Native.Nat.{ℕ, zero, suc, ◌+◌, ◌/◌, ◌%◌, ◌-◌, ◌<◌}
use native.Mathlib.Nat.{add-zero}
use native.Mathlib.Omega.{arith}
use borrow.Author.Tests.{lt-ltb, le-ltb}
use lib.Dec.{lit≤}
use lib.IntN.{ℤ, pos, negsuc}
use lib.ListN.{length, get_or, drop}
use lib.Seq.{get_or-drop, drop-drop, drop_at}
use Rattle.sphere.specs.declared.point.Point.{Point}
use Rattle.sphere.specs.Point.{Fits, Within}
use Rattle.big_endian.specs.Bytes.{byte_at, short_at, word_at, signed, int_at, ints_at, point_at, short_bytes}
use Rattle.big_endian.specs.Bytes.{word_bytes, word_of, int_bytes, ints_bytes, numbers_of, point_bytes}
use Rattle.big_endian.proofs.Laws.Stores.{int_bytes-length}

pub byte_written : (b : List ℕ) {l : List ℕ} (at k : ℕ) → drop at b ≡ l → byte_at b (at + k) ≡ byte_at l k
byte_written b at k e = sym (get_or-drop at b k 0) ∙ ap (λ (x : List ℕ). get_or x k 0) e

pub first_written : (b : List ℕ) {l : List ℕ} (at : ℕ) → drop at b ≡ l → byte_at b at ≡ byte_at l 0
first_written b at e = ap (λ (k : ℕ). get_or b k 0) (sym (add-zero at)) ∙ byte_written b at 0 e

pub short_written :
    (b : List ℕ) (at n : ℕ) (rest : List ℕ) → n < 65536 → drop at b ≡ short_bytes n ++ rest → short_at b at ≡ n
unfolding short_at short_bytes
short_written b at n rest h e = rw (first_written b at e, byte_written b at 1 e) (omega arith)

pub word_written :
    (b : List ℕ) (at n : ℕ) (rest : List ℕ) → n < 4294967296 → drop at b ≡ word_bytes n ++ rest → word_at b at ≡ n
unfolding word_at word_bytes
word_written b at n rest h e =
    let top : n / 16777216 % 256 ≡ n / 16777216 = omega arith in
    rw (first_written b at e, byte_written b at 1 e, byte_written b at 2 e, byte_written b at 3 e, top) (omega arith)

pub signed_word_of : (z : ℤ) → Fits 2147483647 z → signed (word_of z) ≡ z
unfolding signed word_of
signed_word_of (pos n) f = let h = f.within in rw (lt-ltb n 2147483648 (omega arith))
signed_word_of (negsuc n) f =
    let h = f.within in
    let e : 4294967295 - (4294967295 - n) ≡ n = omega arith in
    rw (le-ltb (4294967295 - n) 2147483648 (omega arith), e)

pub word_of_bound : (z : ℤ) → Fits 2147483647 z → word_of z < 4294967296
unfolding word_of
word_of_bound (pos n) f = let h = f.within in omega arith
word_of_bound (negsuc n) f = omega arith

pub int_written :
    (b : List ℕ) (at : ℕ) (z : ℤ) (rest : List ℕ) → Fits 2147483647 z → drop at b ≡ int_bytes z ++ rest → int_at b at ≡ z
unfolding int_at int_bytes
int_written b at z rest f e =
    ap signed (word_written b at (word_of z) rest (word_of_bound z f) e) ∙ signed_word_of z f

numbers_fit : (p : Point) → Within 2147483647 p → (i : ℕ) → Fits 2147483647 (get_or (numbers_of p) i (pos 0))
numbers_fit p w zero = w.at_x
numbers_fit p w (suc zero) = w.at_y
numbers_fit p w (suc (suc zero)) = w.at_z
numbers_fit p w (suc (suc (suc i))) = record { within = lit≤ tt }

-- Every number of the row is small enough. (Past its end a row reads as 0.)
pub ints_written :
    (b : List ℕ) (at : ℕ) (zs : List ℤ) (rest : List ℕ) → ((i : ℕ) → Fits 2147483647 (get_or zs i (pos 0))) →
    drop at b ≡ ints_bytes zs ++ rest → ints_at b at (length zs) ≡ zs
unfolding ints_at ints_bytes
ints_written b at [] rest f e = refl
ints_written b at (z ∷ zs) rest f e =
    let e' = e ∙ append_assoc (int_bytes z) (ints_bytes zs) rest in
    let behind = drop_at (int_bytes z) (ints_bytes zs ++ rest) 4 (int_bytes-length z) in
    let next = sym (drop-drop 4 at b) ∙ ap (drop 4) e' ∙ behind in
    ap₂ (λ (x : ℤ) (xs : List ℤ). x ∷ xs) (int_written b at z (ints_bytes zs ++ rest) (f 0) e')
    (ints_written b (at + 4) zs rest (λ i. f (suc i)) next)

point_of : List ℤ → Point
point_of zs = record { x = get_or zs 0 (pos 0); y = get_or zs 1 (pos 0); z = get_or zs 2 (pos 0) }

pub point_written :
    (b : List ℕ) (at : ℕ) (p : Point) (rest : List ℕ) → Within 2147483647 p →
    drop at b ≡ point_bytes p ++ rest → point_at b at ≡ p
unfolding point_at ints_at point_of
point_written b at p rest w e =
    let l = ints_written b at (numbers_of p) rest (numbers_fit p w) e in
    let e' : at + 8 ≡ at + 4 + 4 = omega arith in
    rw e' (ap point_of l)

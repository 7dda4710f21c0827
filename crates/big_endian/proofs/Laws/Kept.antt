-- What was read is written: from `at` on, a list of bytes goes on with the bytes of the number that it has there.
-- Proved, in order: short_kept, word_of_signed, word_kept, int_kept, ints_kept, point_kept.
use mathlib.Core.Path.{◌≡◌, refl, sym, ap, ◌∙◌}
use mathlib.Core.Bool.{Bool, true, false, cond}
use mathlib.Core.List.{List, ◌∷◌, ◌++◌, append_assoc}
use Prim.Native.Nat.{ℕ, zero, suc, ◌+◌, ◌*◌, ◌-◌, ◌/◌, ◌%◌, ◌≤◌, ◌<◌}
use native.Mathlib.Omega.{arith}
use lib.Dec.{ltb}
use lib.IntN.{pos, negsuc}
use lib.ListN.{length, drop}
use lib.Seq.{drop-cons}
use Rattle.big_endian.specs.Bytes.{byte_at, short_at, word_at, signed, int_at, ints_at, point_at, AreBytes}
use Rattle.big_endian.specs.Bytes.{short_bytes, word_bytes, word_of, int_bytes, ints_bytes, point_bytes}

byte_kept : (b : List ℕ) (at next : ℕ) → next ≡ suc at → at < length b → drop at b ≡ byte_at b at ∷ drop next b
byte_kept b at next e h = drop-cons b at 0 h ∙ ap (λ (k : ℕ). byte_at b at ∷ drop k b) (sym e)

bytes_kept :
    (b : List ℕ) (at : ℕ) → at + 4 ≤ length b →
    drop at b ≡ byte_at b at ∷ byte_at b (at + 1) ∷ byte_at b (at + 2) ∷ byte_at b (at + 3) ∷ drop (at + 4) b
bytes_kept b at h =
    byte_kept b at (at + 1) (omega arith) (omega arith)
    ∙ ap (λ (l : List ℕ). byte_at b at ∷ l)
    (byte_kept b (at + 1) (at + 2) (omega arith) (omega arith)
    ∙ ap (λ (l : List ℕ). byte_at b (at + 1) ∷ l)
    (byte_kept b (at + 2) (at + 3) (omega arith) (omega arith)
    ∙ ap (λ (l : List ℕ). byte_at b (at + 2) ∷ l) (byte_kept b (at + 3) (at + 4) (omega arith) (omega arith))))

by_sign :
    (n : ℕ) → n < 4294967296 → (t : Bool) → ltb n 2147483648 ≡ t → word_of (cond t (pos n) (negsuc (4294967295 - n))) ≡ n
unfolding word_of
by_sign n h true e = refl
by_sign n h false e = omega arith

pub word_of_signed : (n : ℕ) → n < 4294967296 → word_of (signed n) ≡ n
unfolding signed
word_of_signed n h = by_sign n h (ltb n 2147483648) refl

module _ (b : List ℕ) (are : AreBytes b) where
  pub short_kept : (at : ℕ) → at + 2 ≤ length b → drop at b ≡ short_bytes (short_at b at) ++ drop (at + 2) b
  unfolding short_at short_bytes
  short_kept at h =
      let x = byte_at b at in
      let y = byte_at b (at + 1) in
      let p : (x * 256 + y) / 256 % 256 ≡ x = omega (arith, are at, are (at + 1)) in
      let q : (x * 256 + y) % 256 ≡ y = omega (arith, are (at + 1)) in
      rw (p, q)
      (byte_kept b at (at + 1) (omega arith) (omega arith)
      ∙ ap (λ (l : List ℕ). x ∷ l) (byte_kept b (at + 1) (at + 2) (omega arith) (omega arith)))

  pub word_kept : (at : ℕ) → at + 4 ≤ length b → drop at b ≡ word_bytes (word_at b at) ++ drop (at + 4) b
  unfolding word_at word_bytes
  word_kept at h =
      let x = byte_at b at in
      let y = byte_at b (at + 1) in
      let z = byte_at b (at + 2) in
      let w = byte_at b (at + 3) in
      let n = x * 16777216 + y * 65536 + z * 256 + w in
      let x-is : n / 16777216 % 256 ≡ x = omega (arith, are at, are (at + 1), are (at + 2), are (at + 3)) in
      let y-is : n / 65536 % 256 ≡ y = omega (arith, are at, are (at + 1), are (at + 2), are (at + 3)) in
      let z-is : n / 256 % 256 ≡ z = omega (arith, are at, are (at + 1), are (at + 2), are (at + 3)) in
      let w-is : n % 256 ≡ w = omega (arith, are (at + 3)) in
      rw (x-is, y-is, z-is, w-is) (bytes_kept b at h)

  pub word_at_bound : (at : ℕ) → word_at b at < 4294967296
  unfolding word_at
  word_at_bound at = omega (arith, are at, are (at + 1), are (at + 2), are (at + 3))

  pub int_kept : (at : ℕ) → at + 4 ≤ length b → drop at b ≡ int_bytes (int_at b at) ++ drop (at + 4) b
  unfolding int_at int_bytes
  int_kept at h = rw (word_of_signed (word_at b at) (word_at_bound at)) (word_kept at h)

  pub ints_kept : (n at : ℕ) → at + n * 4 ≤ length b → drop at b ≡ ints_bytes (ints_at b at n) ++ drop (at + n * 4) b
  unfolding ints_at ints_bytes
  ints_kept zero at h = let e : at + 0 * 4 ≡ at = omega arith in ap (λ (k : ℕ). drop k b) (sym e)
  ints_kept (suc n) at h =
      let e : at + 4 + n * 4 ≡ at + suc n * 4 = omega arith in
      let z = int_bytes (int_at b at) in
      int_kept at (omega arith)
      ∙ ap (λ (l : List ℕ). z ++ l) (ints_kept n (at + 4) (omega arith))
      ∙ sym (append_assoc z (ints_bytes (ints_at b (at + 4) n)) (drop (at + 4 + n * 4) b))
      ∙ ap (λ (k : ℕ). (z ++ ints_bytes (ints_at b (at + 4) n)) ++ drop k b) e

  pub point_kept : (at : ℕ) → at + 12 ≤ length b → drop at b ≡ point_bytes (point_at b at) ++ drop (at + 12) b
  unfolding point_at ints_at
  point_kept at h =
      let e : at + 8 ≡ at + 4 + 4 = omega arith in
      rw e (ints_kept 3 at h)

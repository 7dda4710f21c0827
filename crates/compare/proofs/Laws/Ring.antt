-- A ring in bytes, and round it. Proved, in order: ring_count, ring_point (vertex i stands at byte 12i), sound_within,
-- ring_part (a sheet's ring is a part of its bytes); round_below, met_below (a vertex that is to be met is one of the ring).
use mathlib.Core.Path.{◌≡◌, refl, ap, ap₂, ◌∙◌}
use mathlib.Core.Bool.{Bool, true, false, cond}
use mathlib.Core.List.{List, ◌∷◌}
use Prim.Native.Nat.{ℕ, zero, suc, ◌+◌, ◌*◌, ◌-◌, ◌≤◌, ◌<◌}
use native.Mathlib.Omega.{arith}
use borrow.Author.Tests.{ltb-true, ltb-false}
use lib.Dec.{ltb}
use lib.IntN.{ℤ}
use lib.ListN.{length, take, drop, length-drop}
use lib.Seq.{length-take-le, get_or-take, get_or-drop}
use Rattle.big_endian.specs.Bytes.{byte_at, word_at, signed, int_at, ints_at, point_at}
use Rattle.big_endian.proofs.Laws.Rows.{ints_at-length}
use Rattle.polygon.specs.Vertices.{vertices_count, vertex_at}
use Rattle.sheet.proofs.Laws.Points.{row_point}
use Rattle.sphere.specs.declared.point.Point.{Point}
use Rattle.sphere.specs.Point.{fine, Within}
use Rattle.compare.specs.Ring.{round_of, met_at, ring_size, ring_of, Sound}

pub ring_count : (r : List ℕ) → vertices_count (ring_of r) ≡ ring_size r
ring_count r = omega (arith, ints_at-length r 0 (ring_size r * 3))

pub ring_point : (r : List ℕ) (i : ℕ) → i < ring_size r → vertex_at (ring_of r) i ≡ point_at r (i * 12)
ring_point r i h =
    let front : 0 + i * 12 ≡ i * 12 = omega arith in
    row_point r 0 (ring_size r) i h ∙ ap (point_at r) front

pub sound_within : {r : List ℕ} {i : ℕ} {p : Point} → p ≡ vertex_at (ring_of r) i → Sound r → i < ring_size r → Within fine p
sound_within {r} {i} e s h = rw e (s.gridded.each i (omega (arith, ring_count r)))

-- ---- a part of a list of bytes
module _ (b : List ℕ) (at n : ℕ) where
  part_byte : (i : ℕ) → i < n → byte_at (take n (drop at b)) i ≡ byte_at b (at + i)
  part_byte i h = get_or-take n (drop at b) i 0 h ∙ get_or-drop at b i 0

  part_int : (i : ℕ) → i + 4 ≤ n → int_at (take n (drop at b)) i ≡ int_at b (at + i)
  unfolding int_at word_at
  part_int i h =
      let one : at + (i + 1) ≡ at + i + 1 = omega arith in
      let two : at + (i + 2) ≡ at + i + 2 = omega arith in
      let three : at + (i + 3) ≡ at + i + 3 = omega arith in
      let p = part_byte i (omega arith) in
      let q = part_byte (i + 1) (omega arith) ∙ ap (byte_at b) one in
      let r = part_byte (i + 2) (omega arith) ∙ ap (byte_at b) two in
      let s = part_byte (i + 3) (omega arith) ∙ ap (byte_at b) three in
      λ k. signed (p k * 16777216 + q k * 65536 + r k * 256 + s k)

  part_ints : (i m : ℕ) → i + m * 4 ≤ n → ints_at (take n (drop at b)) i m ≡ ints_at b (at + i) m
  unfolding ints_at
  part_ints i zero h = refl
  part_ints i (suc m) h =
      let next : at + (i + 4) ≡ at + i + 4 = omega arith in
      ap₂ (λ (z : ℤ) (l : List ℤ). z ∷ l) (part_int i (omega arith))
      (part_ints (i + 4) m (omega arith) ∙ ap (λ (k : ℕ). ints_at b k m) next)

pub ring_part : (b : List ℕ) (at n : ℕ) → at + n * 12 ≤ length b →
    ring_of (take (n * 12) (drop at b)) ≡ ints_at b at (n * 3)
ring_part b at n h =
    let long = length-take-le (n * 12) (drop at b) (omega (arith, length-drop at b)) in
    let size : ring_size (take (n * 12) (drop at b)) * 3 ≡ n * 3 = omega arith in
    let front : at + 0 ≡ at = omega arith in
    ap (ints_at (take (n * 12) (drop at b)) 0) size
    ∙ part_ints b at (n * 12) 0 (n * 3) (omega arith) ∙ ap (λ (k : ℕ). ints_at b k (n * 3)) front

-- ---- round a ring
round_below : (n j : ℕ) → j < n + n → 0 < n → round_of n j < n
unfolding round_of
round_below n j h some = go (ltb j n) refl
  where
    go : (b : Bool) → ltb j n ≡ b → cond b j (j - n) < n
    go true e = ltb-true j n e
    go false e = let l = ltb-false j n e in omega arith

pub met_below : (back : Bool) (n k i : ℕ) → k < n → i < n → met_at back n k i < n
unfolding met_at
met_below true n k i h l = round_below n (k + (n - i)) (omega arith) (omega arith)
met_below false n k i h l = round_below n (k + i) (omega arith) (omega arith)

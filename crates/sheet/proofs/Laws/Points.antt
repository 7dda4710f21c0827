-- A row of points in bytes: each stands twelve bytes behind the one before it. Proved: row_point.
use mathlib.Core.Path.{◌≡◌, ap, ◌∙◌}
use mathlib.Core.List.{List}
use Prim.Native.Nat.{ℕ, ◌+◌, ◌*◌, ◌<◌}
use native.Mathlib.Omega.{arith}
use Rattle.big_endian.specs.Bytes.{int_at, ints_at, point_at}
use Rattle.big_endian.proofs.Laws.Rows.{ints_at_number}
use Rattle.polygon.specs.Vertices.{vertex_at}

pub row_point : (b : List ℕ) (at n i : ℕ) → i < n → vertex_at (ints_at b at (n * 3)) i ≡ point_at b (at + i * 12)
unfolding vertex_at point_at
row_point b at n i h =
    let x : at + i * 3 * 4 ≡ at + i * 12 = omega arith in
    let y : at + (i * 3 + 1) * 4 ≡ at + i * 12 + 4 = omega arith in
    let z : at + (i * 3 + 2) * 4 ≡ at + i * 12 + 8 = omega arith in
    λ k. record {
      x = (ints_at_number b at (n * 3) (i * 3) (omega arith) ∙ ap (int_at b) x) k;
      y = (ints_at_number b at (n * 3) (i * 3 + 1) (omega arith) ∙ ap (int_at b) y) k;
      z = (ints_at_number b at (n * 3) (i * 3 + 2) (omega arith) ∙ ap (int_at b) z) k;
    }

-- `corner` meets its contract, coordinate by coordinate.
use mathlib.Core.Path.{◌≡◌}
use Prim.Native.Nat.{ℕ, ◌+◌}
use native.Mathlib.Omega.{arith}
use mir.Syntax.{w64}
use mir.ValLaws.{to_z-of_z}
use Rattle.integers.proofs.Compare.{result_same}
use Rattle.sphere.proofs.Numbers.{words_of}
use Rattle.search.specs.Boxes.{corner_for}
use Rattle.search.proofs.boxes.corner.Goals as goal

later : (at a k : ℕ) → at + k + a ≡ at + a + k
later at a k = omega arith

pub returns : goal.returns
unfolding corner_for
returns c =
    let s = c.args in
    let n = words_of s.normal c.struct_told-1.given in
    let x = c.end_for in
    let y = c.end_for-2 in
    let z = c.end_for-3 in
    cc (
      result_same w64 x.result x.type_inv x.ensures,
      result_same w64 y.result y.type_inv y.ensures,
      result_same w64 z.result z.type_inv z.ensures,
      to_z-of_z w64 s.normal.x n.at_x,
      to_z-of_z w64 s.normal.y n.at_y,
      to_z-of_z w64 s.normal.z n.at_z,
      later s.at s.a 1,
      later s.at s.b 1,
      later s.at s.a 2,
      later s.at s.b 2,
    )

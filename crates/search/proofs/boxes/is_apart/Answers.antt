-- `is_apart` meets its contract.
use mathlib.Core.Path.{◌≡◌, sym, ◌∙◌, ap, ap₂}
use mathlib.Core.List.{List}
use Prim.Native.Nat.{ℕ, ◌+◌, ◌*◌}
use native.Mathlib.Omega.{arith}
use lib.IntN.{ℤ}
use mir.Syntax.{w64}
use Rattle.integers.specs.Sign.{is_positive, is_negative}
use Rattle.integers.proofs.Compare.{positive_test, negative_test}
use Rattle.sphere.specs.declared.point.Point.{Point}
use Rattle.polygon.specs.Vertices.{vertex_at}
use Rattle.search.specs.Boxes.{point_of, box_at, corner_for, is_apart}
use Rattle.search.proofs.Laws.Apart.{corner_within}
use Rattle.search.proofs.boxes.is_apart.Goals as goal

-- The two points of box r, by the offsets of their numbers.
low_at : (l : List ℤ) (r : ℕ) → point_of l (r * 6 + 0) ≡ (box_at l r).low
unfolding box_at vertex_at
low_at l r = let e : r * 6 + 0 ≡ r * 2 * 3 = omega arith in ap (point_of l) e

high_at : (l : List ℤ) (r : ℕ) → point_of l (r * 6 + 3) ≡ (box_at l r).high
unfolding box_at vertex_at
high_at l r = let e : r * 6 + 3 ≡ (r * 2 + 1) * 3 = omega arith in ap (point_of l) e

-- The corners that are looked at.
module _ (N : Point) (l : List ℤ) (r : ℕ) {p : Point} where
  near : p ≡ corner_for N (point_of l (r * 6 + 0)) (point_of l (r * 6 + 3)) →
      p ≡ corner_for N (box_at l r).low (box_at l r).high
  near e = e ∙ ap₂ (corner_for N) (low_at l r) (high_at l r)

  far : p ≡ corner_for N (point_of l (r * 6 + 3)) (point_of l (r * 6 + 0)) →
      p ≡ corner_for N (box_at l r).high (box_at l r).low
  far e = e ∙ ap₂ (corner_for N) (high_at l r) (low_at l r)

pub exact_side_of-requires : goal.exact_side_of-requires
exact_side_of-requires c =
    let a = c.args in
    let within = c.requires.within in
    let corner = near a.plane.normal a.boxes.now a.r c.corner.ensures in
    (c.requires.sound.0, rw corner (corner_within a.plane.normal _ _ within.0 within.1))

pub returns-then-exact_side_of-gt0 : goal.returns-then-exact_side_of-gt0
unfolding is_apart
returns-then-exact_side_of-gt0 c =
    let a = c.args in
    let d = c.exact_side_of in
    let test = c.if-exact_side_of-gt0.true in
    let above = sym (ap is_positive d.ensures) ∙ sym (positive_test w64 d.result (record { sfits = d.type_inv })) ∙ test in
    rw (← near a.plane.normal a.boxes.now a.r c.corner.ensures, above) test

pub exact_side_of-requires-else-exact_side_of-gt0 : goal.exact_side_of-requires-else-exact_side_of-gt0
exact_side_of-requires-else-exact_side_of-gt0 c =
    let a = c.args in
    let within = c.requires.within in
    let corner = far a.plane.normal a.boxes.now a.r c.corner-else-exact_side_of-gt0.ensures in
    (c.requires.sound.0, rw corner (corner_within a.plane.normal _ _ within.1 within.0))

pub returns-else-exact_side_of-gt0 : goal.returns-else-exact_side_of-gt0
unfolding is_apart
returns-else-exact_side_of-gt0 c =
    let a = c.args in
    let d = c.exact_side_of in
    let b = c.exact_side_of-else-exact_side_of-gt0 in
    let test = c.if-exact_side_of-gt0.false in
    let above = sym (ap is_positive d.ensures) ∙ sym (positive_test w64 d.result (record { sfits = d.type_inv })) ∙ test in
    rw (
      ← near a.plane.normal a.boxes.now a.r c.corner.ensures,
      above,
      ← far a.plane.normal a.boxes.now a.r c.corner-else-exact_side_of-gt0.ensures,
    ) (negative_test w64 b.result (record { sfits = b.type_inv }) ∙ ap is_negative b.ensures)

-- `frame_of` meets its contract: it goes round the longest axis.
use mathlib.Core.Path.{◌≡◌, refl, sym, ap, ◌∙◌, subst}
use mathlib.Core.Bool.{Bool}
use Prim.Native.Nat.{◌≤◌, ◌<◌}
use native.Mathlib.Omega.{arith}
use lib.IntN.{ℤ, pos, nat_abs, ◌-ℤ◌}
use lib.Signed.{lt_z}
use mir.Syntax.{w64}
use mir.Val.{to_z, of_z}
use Rattle.integers.proofs.Range.{Formula, number, ◌⊖◌, formula_same}
use Rattle.sphere.specs.declared.point.Point.{Point}
use Rattle.sphere.specs.Point.{fine, Within}
use Rattle.sphere.proofs.Numbers.{x_of, y_of, z_of}
use Rattle.azimuths.specs.declared.azimuth.Frame.{Frame}
use Rattle.azimuths.specs.Azimuth.{FrameAt}
use Rattle.azimuths.proofs.Laws.Across.{across_x, across_y, across_z, turned_by, round_x, round_y, round_z, framed}
use Rattle.azimuths.proofs.Laws.Across.{Round, longest}
use Rattle.azimuths.proofs.azimuth.frame_of.Goals as goal
use Rattle.azimuths.proofs.azimuth.frame_of.Goals.{else-unsigned_abs-via-then-unsigned_abs+else-unsigned_abs-2}
use Rattle.azimuths.proofs.azimuth.frame_of.Goals.{else-unsigned_abs-via-else-unsigned_abs}

-- A number as it is held.
abbrev held : ℤ → ℤ
held k = to_z w64 (of_z w64 k)

-- A number below zero by as much.
abbrev less : Formula → Formula
less e = number (pos 0) 0 (omega arith) ⊖ e

point_same : {x x' y y' z z' : ℤ} → x ≡ x' → y ≡ y' → z ≡ z' →
    ◌≡◌ {A = Point} (record { x = x; y = y; z = z }) (record { x = x'; y = y'; z = z' })
point_same p q r = λ i. record { x = p i; y = q i; z = r i }

turned_same : {t t' : Bool} {A A' B B' : Point} → t ≡ t' → A ≡ A' → B ≡ B' → turned_by t A B ≡ turned_by t' A' B'
turned_same p q r = λ i. turned_by (p i) (q i) (r i)

-- The point's numbers, its size along each axis, and the three vectors as they are held.
module _ (X : Point) (W : Within fine X) where
  kept_x : held X.x ≡ X.x
  kept_x = formula_same (x_of W) tt

  kept_y : held X.y ≡ X.y
  kept_y = formula_same (y_of W) tt

  kept_z : held X.z ≡ X.z
  kept_z = formula_same (z_of W) tt

  same_x : record { x = pos 0; y = held (pos 0 -ℤ held X.z); z = held X.y } ≡ across_x X
  same_x = point_same refl (formula_same (less (z_of W)) tt) kept_y

  same_y : record { x = held X.z; y = pos 0; z = held (pos 0 -ℤ held X.x) } ≡ across_y X
  same_y = point_same kept_z refl (formula_same (less (x_of W)) tt)

  same_z : record { x = held (pos 0 -ℤ held X.y); y = held X.x; z = pos 0 } ≡ across_z X
  same_z = point_same (formula_same (less (y_of W)) tt) kept_x refl

  -- Round the axis of number k.
  frame : {A B A' B' : Point} {k : ℤ} {r : Frame} → r ≡ turned_by (lt_z (pos 0) (held k)) A B → held k ≡ k → A ≡ A' →
      B ≡ B' → Round X A' B' k → 0 < nat_abs k → FrameAt X r
  frame {k = k} told e p q round h =
      subst (FrameAt X) (sym (told ∙ turned_same (ap (lt_z (pos 0)) e) p q)) (framed X _ _ k round h)

pub returns-then-unsigned_abs-2 : goal.returns-then-unsigned_abs-2
returns-then-unsigned_abs-2 c =
    let X = c.args.known in
    let W = c.requires.0 in
    let x = ap nat_abs (kept_x X W) in
    let y = ap nat_abs (kept_y X W) in
    let z = ap nat_abs (kept_z X W) in
    frame X W c.turned.ensures (kept_z X W) (same_x X W) (same_y X W) (round_z X)
    (longest X (nat_abs X.z) c.requires.1 (omega arith) (omega arith) (omega arith))

pub returns-then-unsigned_abs-3 : goal.returns-then-unsigned_abs-3
returns-then-unsigned_abs-3 c =
    let X = c.args.known in
    let W = c.requires.0 in
    let x = ap nat_abs (kept_x X W) in
    let y = ap nat_abs (kept_y X W) in
    let z = ap nat_abs (kept_z X W) in
    let most : nat_abs X.z ≤ nat_abs X.y = elim c.else-unsigned_abs.branch [
      | else-unsigned_abs-via-then-unsigned_abs+else-unsigned_abs-2 w ↦ omega arith
      | else-unsigned_abs-via-else-unsigned_abs w ↦ omega arith
    ] in
    frame X W c.turned-then-unsigned_abs-3.ensures (kept_y X W) (same_z X W) (same_x X W) (round_y X)
    (longest X (nat_abs X.y) c.requires.1 (omega arith) (omega arith) most)

pub returns-else-unsigned_abs-3 : goal.returns-else-unsigned_abs-3
returns-else-unsigned_abs-3 c =
    let X = c.args.known in
    let W = c.requires.0 in
    let x = ap nat_abs (kept_x X W) in
    let y = ap nat_abs (kept_y X W) in
    let z = ap nat_abs (kept_z X W) in
    let most : nat_abs X.z ≤ nat_abs X.x = elim c.else-unsigned_abs.branch [
      | else-unsigned_abs-via-then-unsigned_abs+else-unsigned_abs-2 w ↦ omega arith
      | else-unsigned_abs-via-else-unsigned_abs w ↦ omega arith
    ] in
    frame X W c.turned-else-unsigned_abs-3.ensures (kept_x X W) (same_y X W) (same_z X W) (round_x X)
    (longest X (nat_abs X.x) c.requires.1 (omega arith) (omega arith) most)

-- `azimuth_by` meets its contract.
use mathlib.Core.Path.{◌≡◌, refl, ap, ap₂, ◌∙◌}
use mathlib.Core.Bool.{Bool, true, false, not, cond, beq}
use Prim.Native.Nat.{ℕ, ◌+◌, ◌*◌, ◌≤◌}
use native.Mathlib.Nat.{div-le_of_le-mul}
use native.Mathlib.Omega.{arith}
use lib.IntN.{ℤ, pos, nat_abs}
use lib.Signed.{lt_z}
use mir.Syntax.{w64}
use mir.Val.{to_z, of_z}
use mir.ValLaws.{to_z-of_z}
use Rattle.integers.specs.Sign.{sign_of, is_negative}
use Rattle.integers.proofs.Compare.{negative_test}
use Rattle.integers.proofs.Size.{nat_abs_zero}
use Rattle.azimuths.specs.Azimuth.{quarter_of, part_of, across_of, azimuth_by}
use Rattle.azimuths.proofs.Laws.Seen.{below as azimuth_less}
use Rattle.azimuths.proofs.azimuth.azimuth_by.Goals as goal
use Rattle.azimuths.proofs.azimuth.azimuth_by.Goals.{After-part, then-u-v, else-u-v}

-- No direction has azimuth 0.
nowhere : (u v : ℤ) → nat_abs u + nat_abs v ≡ 0 → 0 ≡ azimuth_by u v
unfolding azimuth_by
nowhere u v h = rw (nat_abs_zero u (omega arith), nat_abs_zero v (omega arith))

quarter_most : (west south : Bool) → quarter_of west south ≤ 49152
quarter_most false false = omega arith
quarter_most true false = omega arith
quarter_most true true = omega arith
quarter_most false true = omega arith

-- The size that is chosen, as the code tells it.
chosen : (west south : Bool) (a b : ℕ) → across_of west south a b ≡ cond (not (beq west south)) a b
chosen false false a b = refl
chosen true false a b = refl
chosen true true a b = refl
chosen false true a b = refl

across_same : {w w' s s' : Bool} {a a' b b' : ℕ} → w ≡ w' → s ≡ s' → a ≡ a' → b ≡ b' →
    across_of w s a b ≡ across_of w' s' a' b'
across_same p q e f = rw (p, q, e, f)

-- Which sides the code asks for: west, and south.
abbrev below : ℤ → Bool
below k = lt_z (to_z w64 (of_z w64 k)) (pos 0)

pub returns-then-d-eq0 : goal.returns-then-d-eq0
returns-then-d-eq0 c =
    let a = ap nat_abs (to_z-of_z w64 c.args.u c.ranges.u) in
    let b = ap nat_abs (to_z-of_z w64 c.args.v c.ranges.v) in
    nowhere c.args.u c.args.v (omega arith)

pub overflow_add-result : goal.overflow_add-result
overflow_add-result c =
    let d = c.unsigned_abs-a.result + c.unsigned_abs-b.result in
    let least : c.if-u-v.across ≤ d = elim c.if-u-v.branch [ then-u-v w ↦ omega arith | else-u-v w ↦ omega arith ] in
    let part = div-le_of_le-mul d {m = c.if-u-v.across * 16384} {n = 16384} (omega (arith, least)) in
    omega (arith, quarter_most (below c.args.u) (below c.args.v))

same : (c : After-part) → c.quarter.result + c.part.result ≡ azimuth_by c.args.u c.args.v
unfolding azimuth_by
same c =
    let u = c.args.u in
    let v = c.args.v in
    let a = c.unsigned_abs-a in
    let b = c.unsigned_abs-b in
    let west : below u ≡ is_negative (sign_of u) = negative_test w64 u c.ranges.u in
    let south : below v ≡ is_negative (sign_of v) = negative_test w64 v c.ranges.v in
    let first : a.result ≡ nat_abs u = a.ensures.value ∙ ap nat_abs (to_z-of_z w64 u c.ranges.u) in
    let second : b.result ≡ nat_abs v = b.ensures.value ∙ ap nat_abs (to_z-of_z w64 v c.ranges.v) in
    let across : c.if-u-v.across ≡ across_of (below u) (below v) a.result b.result = elim c.if-u-v.branch [
      | then-u-v w ↦ rw (chosen (below u) (below v) a.result b.result, w.if-u-v.true) w.across-is
      | else-u-v w ↦ rw (chosen (below u) (below v) a.result b.result, w.if-u-v.false) w.across-is
    ] in
    ap₂ ◌+◌ (c.quarter.ensures ∙ ap₂ quarter_of west south)
    (c.part.ensures ∙ ap₂ part_of (across ∙ across_same west south first second) (ap₂ ◌+◌ first second))

pub overflow_cast-result : goal.overflow_cast-result
overflow_cast-result c = omega (arith, same c, azimuth_less c.args.u c.args.v)

pub returns : goal.returns
returns c = same c

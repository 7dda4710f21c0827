-- `minor` meets its contract: the parts are cast one by one.
use mathlib.Core.Path.{◌≡◌, ap, ap₂, ◌∙◌}
use lib.IntN.{ℤ}
use lib.Ieee.{binary64, sub, mul}
use mir.Syntax.{w64}
use mir.Val.{SFits, to_z, of_z}
use mir.ValLaws.{to_z-of_z}
use Rattle.sphere.specs.Approximate.{float, minor_of}
use Rattle.sphere.proofs.approximate.minor.Goals as goal

pub returns : goal.returns
unfolding minor_of
returns c =
    let first = c.before.before.before in
    let s = first.before in
    let kept : (z : ℤ) → SFits w64 z → float (to_z w64 (of_z w64 z)) ≡ float z = λ z f. ap float (to_z-of_z w64 z f) in
    ap₂ (sub binary64)
    (ap₂ (mul binary64) (first.to_float.ensures ∙ kept s.args.p s.ranges.p)
    (c.before.before.to_float-2.ensures ∙ kept s.args.q s.ranges.q))
    (ap₂ (mul binary64) (c.before.to_float-3.ensures ∙ kept s.args.r s.ranges.r)
    (c.to_float-4.ensures ∙ kept s.args.s s.ranges.s))

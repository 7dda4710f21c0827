-- `float_dot` meets its contract.
use mathlib.Core.Path.{ap, ap₂, ◌∙◌}
use lib.Ieee.{binary64, add, mul}
use mir.Syntax.{w64}
use mir.ValLaws.{to_z-of_z}
use Rattle.sphere.specs.Approximate.{float, float_dot_of}
use Rattle.sphere.proofs.Numbers.{words_of}
use Rattle.sphere.proofs.approximate.float_dot.Goals as goal

pub returns : goal.returns
unfolding float_dot_of
returns c =
    let second = c.before.before.before.before in
    let first = second.before.before.before in
    let s = first.before.before.args in
    let p = words_of s.c c.before.before.struct_told-3-1.given in
    ap₂ (add binary64)
    (ap₂ (add binary64)
    (ap (mul binary64 s.n.x) (first.to_float.ensures ∙ ap float (to_z-of_z w64 s.c.x p.at_x)))
    (ap (mul binary64 s.n.y) (second.to_float-2.ensures ∙ ap float (to_z-of_z w64 s.c.y p.at_y))))
    (ap (mul binary64 s.n.z) (c.before.to_float-3.ensures ∙ ap float (to_z-of_z w64 s.c.z p.at_z)))

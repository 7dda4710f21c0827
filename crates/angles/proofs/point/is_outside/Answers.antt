-- `point::is_outside` meets its contract.
use mathlib.Core.Path.{refl, sym}
use Rattle.sphere.specs.Point.{is_far}
use Rattle.angles.specs.Point.{is_outside}
use Rattle.angles.proofs.Numbers.{words_of, widened, called}
use Rattle.angles.proofs.point.is_outside.Goals as goal

pub returns-then-is_past : goal.returns-then-is_past
unfolding is_outside
returns-then-is_past c =
    let s = c.before.before.before in
    let w = words_of s.before.before.args.p s.struct_told-2-1.given in
    let a = c.before.before.from in
    rw (called (is_far 1800000000) _ a.result (widened _ _ w.at_lon a.type_inv a.ensures)
    c.before.is_past.ensures
    c.if-is_past.true)

pub returns : goal.returns
unfolding is_outside
returns c =
    let j = c.before.before in
    let s = j.before.before.before in
    let w = words_of s.before.before.args.p s.struct_told-2-1.given in
    let a = j.before.before.from in
    let b = c.before.from-2 in
    rw (called (is_far 1800000000) _ a.result (widened _ _ w.at_lon a.type_inv a.ensures)
    j.before.is_past.ensures
    j.if-is_past.false)
    (sym (called (is_far 900000000) _ b.result (widened _ _ w.at_lat b.type_inv b.ensures)
    c.is_past-2.ensures refl))

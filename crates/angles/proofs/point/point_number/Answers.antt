-- `point::point_number` meets its contract.
use mathlib.Core.Path.{sym, ap, ◌∙◌}
use Rattle.angles.specs.Point.{is_outside}
use Rattle.angles.specs.Point.{point_number}
use Rattle.angles.proofs.Numbers.{handed}
use Rattle.angles.proofs.point.point_number.Goals as goal

pub returns-then-is_outside : goal.returns-then-is_outside
unfolding point_number
returns-then-is_outside c =
    let f = c.before.before.ranges in
    rw (ap is_outside (sym (handed _ _ f.lon f.lat)) ∙ sym c.before.is_outside.ensures ∙ c.if-is_outside.true)

pub returns : goal.returns
unfolding point_number
returns c =
    let f = c.before.before.ranges in
    rw (ap is_outside (sym (handed _ _ f.lon f.lat)) ∙ sym c.before.is_outside.ensures ∙ c.if-is_outside.false)

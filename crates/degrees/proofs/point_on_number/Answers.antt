-- `point_on_number` meets its contract.
use mathlib.Core.Path.{ap, ◌∙◌}
use Rattle.angles.specs.Point.{point_number}
use Rattle.angles.proofs.Numbers.{handed}
use Rattle.degrees.specs.Points.{point_on_number}
use Rattle.degrees.proofs.Laws.{no_grid, some_grid}
use Rattle.degrees.proofs.point_on_number.Goals as goal

pub returns-then-grid-gt1 : goal.returns-then-grid-gt1
unfolding point_on_number
returns-then-grid-gt1 c = rw (no_grid _ c.if-grid-gt1.true)

pub returns : goal.returns
unfolding point_on_number
returns c =
    let f = c.before.before.ranges in
    rw (some_grid _ c.before.if-grid-gt1.false)
    (c.point_number.ensures ∙ ap point_number (handed _ _ f.lon f.lat))

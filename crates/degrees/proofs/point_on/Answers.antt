-- `point_on` meets its contract.
use mathlib.Core.Path.{ap₂, ◌∙◌}
use Rattle.angles.specs.Point.{numbers_on}
use Rattle.angles.proofs.Numbers.{handed}
use Rattle.degrees.specs.Points.{point_on}
use Rattle.degrees.proofs.Laws.{no_grid, some_grid}
use Rattle.degrees.proofs.point_on.Goals as goal

pub returns-then-grid-gt1 : goal.returns-then-grid-gt1
unfolding point_on
returns-then-grid-gt1 c = rw (no_grid _ c.if-grid-gt1.true)

pub returns : goal.returns
unfolding point_on
returns c =
    let f = c.before.before.before.ranges in
    rw (some_grid _ c.before.before.if-grid-gt1.false)
    (c.numbers_on.ensures ∙ ap₂ numbers_on c.before.grid_numbered.ensures (handed _ _ f.lon f.lat))

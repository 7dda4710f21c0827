-- `is_off_grid` meets its contract.
use mathlib.Core.Path.{sym, ◌∙◌}
use Rattle.sphere.specs.Point.{is_off_grid}
use Rattle.sphere.proofs.point.is_off_grid.Goals as goal

pub returns-then-is_beyond : goal.returns-then-is_beyond
unfolding is_off_grid
returns-then-is_beyond c = rw (sym c.before.is_beyond.ensures ∙ c.if-is_beyond.true)

pub returns : goal.returns
unfolding is_off_grid
returns c = rw (sym c.before.before.is_beyond.ensures ∙ c.before.if-is_beyond.false) c.is_null.ensures

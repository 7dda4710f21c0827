-- `screen` meets its contract.
use Rattle.std.proofs.Common.{sym, ◌∙◌, leb→le}
use Rattle.sphere.specs.Point.{fine}
use Rattle.sphere.proofs.Laws.Grid.{off-grid→within, within_more}
use Rattle.separation.specs.Planes.{steep}
use Rattle.separation.proofs.Laws.Screened.{ahead_screens, none_screens, test→ahead}
use Rattle.separation.proofs.planes.screen.Goals as goal

pub is_ahead-requires : goal.is_ahead-requires
is_ahead-requires c = (
  c.requires,
  within_more (leb→le fine steep tt) (off-grid→within fine _ (sym c.is_off_grid.ensures ∙ c.if-not-is_off_grid.true)),
)

pub returns-then-is_ahead : goal.returns-then-is_ahead
returns-then-is_ahead c =
    ahead_screens _ (off-grid→within fine _ (sym c.is_off_grid.ensures ∙ c.if-not-is_off_grid.true))
    (test→ahead (sym c.is_ahead.ensures ∙ c.if-is_ahead.true))

pub returns-else-not-is_off_grid : goal.returns-else-not-is_off_grid
returns-else-not-is_off_grid c = rw c.no_plane.ensures (none_screens _)

-- `near_one` meets its contract.
use mathlib.Core.Path.{sym, ◌∙◌}
use Rattle.separation.proofs.Laws.Screened.{on_grid_fine}
use Rattle.book_feed.proofs.indexed.near_one.Goals as goal

pub is_aside-requires : goal.is_aside-requires
is_aside-requires c =
    (c.requires, on_grid_fine c.args.grid _ (sym c.is_off_grid.ensures ∙ c.if-is_off_grid.false))

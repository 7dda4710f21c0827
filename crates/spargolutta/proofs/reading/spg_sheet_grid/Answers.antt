-- `reading::spg_sheet_grid` meets its contract.
use mathlib.Core.Path.{ap, ◌∙◌}
use Rattle.book.specs.Which.{grid_number_of}
use Rattle.spargolutta.proofs.reading.spg_sheet_grid.Goals as goal

pub returns : goal.returns
returns c = c.grid_number.ensures ∙ ap (λ s. grid_number_of s.grid) c.read-s.ensures

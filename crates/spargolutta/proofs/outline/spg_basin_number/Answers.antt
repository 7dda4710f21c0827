-- `spg_basin_number` meets its contract.
use mathlib.Core.Path.{◌∙◌, ap}
use Rattle.basin.specs.Basin.{basin_number_of}
use Rattle.spargolutta.proofs.outline.spg_basin_number.Goals as goal

pub returns : goal.returns
returns c = c.basin_number.ensures ∙ ap basin_number_of c.basin_of.ensures

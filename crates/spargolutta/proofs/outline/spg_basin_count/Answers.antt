-- `spg_basin_count` meets its contract.
use mathlib.Core.Path.{◌∙◌, ap}
use Rattle.basin.specs.Basin.{basin_count_of}
use Rattle.spargolutta.proofs.outline.spg_basin_count.Goals as goal

pub returns : goal.returns
returns c = c.basin_count.ensures ∙ ap basin_count_of c.basin_of.ensures

-- `spg_basin_place` meets its contract.
use mathlib.Core.Path.{◌∙◌, ap}
use Rattle.basin.specs.Basin.{basin_place_of}
use Rattle.spargolutta.proofs.outline.spg_basin_place.Goals as goal

pub returns : goal.returns
returns c = c.basin_place.ensures ∙ ap basin_place_of c.basin_of.ensures

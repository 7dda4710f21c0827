-- `writing::placed` meets its contract.
use mathlib.Core.Path.{ap}
use Rattle.sphere.specs.declared.point.Grid.{Grid}
use Rattle.polygon.specs.GridClaims.{on}
use Rattle.spargolutta.proofs.writing.placed.Goals as goal

pub returns : goal.returns
returns c = ap (λ (g : Grid). on g c.args.p) c.point_grid.ensures

-- `comparison::spg_compare_place` meets its contract.
use mathlib.Core.Path.{ap}
use Rattle.spargolutta.proofs.comparison.spg_compare_place.Goals as goal

pub returns : goal.returns
returns c = ap (λ r. r.place) c.compare.ensures

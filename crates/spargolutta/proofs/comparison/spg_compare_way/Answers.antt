-- `comparison::spg_compare_way` meets its contract.
use mathlib.Core.Path.{ap}
use Rattle.spargolutta.proofs.comparison.spg_compare_way.Goals as goal

pub returns : goal.returns
returns c = ap (λ r. r.way) c.compare.ensures

-- `comparison::spg_compare_number` meets its contract.
use mathlib.Core.Path.{ap}
use Rattle.spargolutta.proofs.comparison.spg_compare_number.Goals as goal

pub returns : goal.returns
returns c = ap (λ r. r.number) c.compare.ensures

-- `comparison::spg_compare_count` meets its contract.
use mathlib.Core.Path.{ap}
use Rattle.spargolutta.proofs.comparison.spg_compare_count.Goals as goal

pub returns : goal.returns
returns c = ap (λ r. r.count) c.compare.ensures

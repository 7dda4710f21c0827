-- `run_count` meets its contract.
use mathlib.Core.Path.{refl}
use Rattle.search.specs.Boxes.{run_count}
use Rattle.search.proofs.boxes.run_count.Goals as goal

pub returns : goal.returns
unfolding run_count
returns c = refl

-- `grammar::ring_table` meets its contract.
use mathlib.Core.Path.{refl}
use Rattle.positions.specs.Text.{rows}
use Rattle.positions.proofs.grammar.ring_table.Goals as goal

pub returns : goal.returns
unfolding rows
returns c = refl

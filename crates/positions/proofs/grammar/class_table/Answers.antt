-- `grammar::class_table` meets its contract.
use mathlib.Core.Path.{refl}
use Rattle.positions.specs.Text.{class_table, class_of}
use Rattle.positions.proofs.grammar.class_table.Goals as goal

pub returns : goal.returns
unfolding class_table class_of
returns c = refl

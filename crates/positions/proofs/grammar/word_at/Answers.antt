-- `grammar::word_at` meets its contract.
use mathlib.Core.Path.{refl}
use Rattle.positions.specs.Text.{words}
use Rattle.positions.proofs.grammar.word_at.Goals as goal

pub returns : goal.returns
unfolding words
returns c = refl

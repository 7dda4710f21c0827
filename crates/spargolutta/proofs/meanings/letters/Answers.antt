-- `meanings::letters` meets its contract.
use mathlib.Core.Path.{refl}
use Rattle.spargolutta.specs.Meanings.{rows, letters}
use Rattle.spargolutta.proofs.meanings.letters.Goals as goal

pub returns : goal.returns
unfolding letters rows
returns c = refl

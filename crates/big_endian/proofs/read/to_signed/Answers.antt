-- `read::to_signed` meets its contract.
use mathlib.Core.Path.{◌∙◌}
use mir.Syntax.{w32}
use Rattle.big_endian.proofs.Laws.Signed.{held, signed_word}
use Rattle.big_endian.proofs.read.to_signed.Goals as goal

pub returns : goal.returns
returns c = held w32 c.cast_signed.type_inv (c.cast_signed.ensures ∙ signed_word c.args.n)

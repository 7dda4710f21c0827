-- `read::int_at` meets its contract.
use mathlib.Core.Path.{ap, ◌∙◌}
use mir.Syntax.{w32}
use Rattle.big_endian.specs.Bytes.{signed, int_at}
use Rattle.big_endian.proofs.Laws.Signed.{held}
use Rattle.big_endian.proofs.read.int_at.Goals as goal

pub returns : goal.returns
unfolding int_at
returns c = held w32 c.to_signed.type_inv (c.to_signed.ensures ∙ ap signed c.before.before.word_at.ensures)

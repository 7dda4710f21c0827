-- `read::word_at` meets its contract.
use native.Mathlib.Omega.{arith}
use mathlib.Core.Path.{◌∙◌}
use Rattle.big_endian.specs.Bytes.{word_at}
use Rattle.big_endian.proofs.read.word_at.Goals as goal

pub returns : goal.returns
unfolding word_at
returns c = c.from_be_bytes.ensures ∙ omega arith

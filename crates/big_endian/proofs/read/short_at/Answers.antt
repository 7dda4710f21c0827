-- `read::short_at` meets its contract.
use Rattle.big_endian.specs.Bytes.{short_at}
use Rattle.big_endian.proofs.read.short_at.Goals as goal

pub returns : goal.returns
unfolding short_at
returns c = cc

-- `store::put_word` meets its contract.
use native.Mathlib.Omega.{arith}
use native.Mathlib.Numerals.{towards_suc}
use lib.ListN.{length-set}
use Rattle.big_endian.specs.Bytes.{word_bytes}
use Rattle.big_endian.proofs.store.put_word.Goals as goal

pub returns : goal.returns
unfolding word_bytes
returns c = simp towards_suc

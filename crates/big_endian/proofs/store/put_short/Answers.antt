-- `store::put_short` meets its contract.
use native.Mathlib.Omega.{arith}
use native.Mathlib.Numerals.{towards_suc}
use lib.ListN.{length-set}
use Rattle.big_endian.specs.Bytes.{short_bytes}
use Rattle.big_endian.proofs.store.put_short.Goals as goal

pub returns : goal.returns
unfolding short_bytes
returns c = simp towards_suc

-- `read::decode_four` meets its contract.
use mathlib.Core.Path.{◌≡◌}
use Prim.Native.Nat.{◌+◌, ◌*◌}
use native.Mathlib.Omega.{arith}
use native.Mathlib.Numerals.{towards_suc}
use lib.ListN.{length-set}
use mir.Syntax.{w32}
use Rattle.big_endian.specs.Bytes.{ints_at}
use Rattle.big_endian.proofs.Laws.Signed.{held}
use Rattle.big_endian.proofs.read.decode_four.Goals as goal

pub returns : goal.returns
unfolding ints_at
returns c =
    let h = c.before.before in
    let g = h.before in
    let f = g.before in
    let a = f.before.before.args in
    let third : a.at + a.k * 4 + 8 ≡ a.at + a.k * 4 + 4 + 4 = omega arith in
    let fourth : a.at + a.k * 4 + 12 ≡ a.at + a.k * 4 + 4 + 4 + 4 = omega arith in
    rw (
      held w32 f.int_at.type_inv f.int_at.ensures,
      held w32 g.int_at-2.type_inv g.int_at-2.ensures,
      held w32 h.int_at-3.type_inv h.int_at-3.ensures,
      held w32 c.int_at-4.type_inv c.int_at-4.ensures,
      third,
      fourth,
    ) (simp towards_suc)

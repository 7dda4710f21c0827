-- `read::decode` meets its contract: the numbers before i are decoded.
use mathlib.Core.Path.{◌≡◌, refl}
use Prim.Native.Nat.{◌+◌, ◌*◌, ◌/◌, ◌-◌}
use native.Mathlib.Omega.{arith}
use lib.ListN.{length-set}
use mir.Syntax.{w32}
use Rattle.big_endian.proofs.Laws.Signed.{held}
use Rattle.big_endian.proofs.Laws.Rows.{filled_more, filled_again, filled_behind}
use Rattle.big_endian.proofs.read.decode.Goals as goal

pub loop-i-preserved : goal.loop-i-preserved
loop-i-preserved c =
    let l = c.before.before.before.loop-i in
    let v = held w32 c.int_at.type_inv c.int_at.ensures in
    (omega arith, simp length-set l.invariant.1, rw (v, l.invariant.2) (filled_more _ _ _ _ (omega arith)))

pub returns : goal.returns
returns c =
    let l = c.before.before.loop-i in
    let f = c.before.before.before.before in
    let s = f.before.before.before.args in
    let all : l.i ≡ s.n = omega (arith, c.loop-i-test.false, l.invariant.0) in
    let on : s.n / 8 * 8 + (s.n - s.n / 8 * 8) ≡ s.n = omega arith in
    let behind = rw on at (filled_behind _ _ _ _ f.decode_eights.ensures (s.n - s.n / 8 * 8)) in
    rw (← behind, ← all) l.invariant.2

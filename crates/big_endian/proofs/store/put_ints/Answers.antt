-- `store::put_ints` meets its contract.
use mathlib.Core.Path.{◌≡◌, refl, ◌∙◌}
use Prim.Native.Nat.{◌<◌}
use native.Mathlib.Omega.{arith}
use lib.ListN.{length}
use lib.Seq.{take-length}
use mir.Syntax.{w32}
use Rattle.big_endian.specs.Bytes.{ints_bytes}
use Rattle.big_endian.proofs.Laws.Signed.{held}
use Rattle.big_endian.proofs.Laws.Stores.{ints_more}
use Rattle.big_endian.proofs.store.put_ints.Goals as goal

pub loop-i-init : goal.loop-i-init
unfolding ints_bytes
loop-i-init c = (omega arith, refl, refl, refl)

pub loop-i-preserved : goal.loop-i-preserved
loop-i-preserved c =
    let a = c.before.before.before.before.before.before.before.before.before.args in
    let l = c.before.before.before.before.before.before.before.loop-i in
    let h : l.i < length a.row.now = omega arith in
    let p = c.before.before.before.put_int in
    let e = rw (held w32 c.before.before.before.before.put_int-arg-in-loop-i-1.given refl, l.invariant.3) at p.ensures in
    (omega arith, refl, p.auto.b ∙ l.invariant.2, e ∙ ints_more a.b.now a.at l.i a.row.now h)

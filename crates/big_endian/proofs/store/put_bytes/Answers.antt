-- `store::put_bytes` meets its contract.
use mathlib.Core.Path.{◌≡◌, refl, ◌∙◌}
use Prim.Native.Nat.{◌<◌}
use native.Mathlib.Omega.{arith}
use lib.ListN.{length, length-set}
use lib.Seq.{take-length}
use Rattle.big_endian.proofs.Laws.Stores.{bytes_more}
use Rattle.big_endian.proofs.store.put_bytes.Goals as goal

pub loop-i-preserved : goal.loop-i-preserved
loop-i-preserved c =
    let a = c.before.before.before.before.args in
    let l = c.before.before.before.loop-i in
    let h : l.i < length a.row.now = omega arith in
    let more = bytes_more a.b.now a.at l.i a.row.now h in
    (omega arith, refl, simp length-set l.invariant.2, rw l.invariant.3 more)

-- `put_all` meets its contract: before position i the first i points are stored.
use mathlib.Core.Path.{◌≡◌, refl, ◌∙◌}
use Prim.Native.Nat.{◌/◌, ◌<◌}
use native.Mathlib.Omega.{arith}
use borrow.Author.Rules.{rules}
use lib.ListN.{length}
use Rattle.big_endian.specs.Bytes.{rows_of}
use Rattle.big_endian.proofs.Laws.RowBytes.{rows_more}
use Rattle.degrees.specs.Points.{position_count, point_bytes_of, points_bytes}
use Rattle.degrees.proofs.Laws.{numbers_bytes-length}
use Rattle.degrees.proofs.put_all.Goals as goal
use Rattle.degrees.proofs.put_all.Lts as lts
use Rattle.degrees.proofs.put_all.Reads as reads
use Rattle.degrees.proofs.put_all.Tie as tie

pub loop-i-init : goal.loop-i-init
unfolding rows_of
loop-i-init c = (omega arith, refl, refl)

pub loop-i-preserved : goal.loop-i-preserved
loop-i-preserved c =
    let one = c.before.before.before.put_one in
    let l = c.before.before.before.before.before.before in
    let s = l.before.before.before.args in
    let more = rows_more 12 (point_bytes_of s.grid s.degrees.now) (λ i. numbers_bytes-length _) s.points.now
    l.loop-i.i in (
      omega arith,
      one.auto.points ∙ l.loop-i.invariant.1,
      rw l.loop-i.invariant.2 at one.ensures ∙ more,
    )

pub returns : goal.returns
unfolding points_bytes
returns c =
    let s = c.before.before.before.before.before.args in
    let e : c.before.before.loop-i.i ≡ position_count s.degrees.now = omega arith in
    rw (← e) c.before.before.loop-i.invariant.2

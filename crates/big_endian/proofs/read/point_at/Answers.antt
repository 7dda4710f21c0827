-- `read::point_at` meets its contract.
use mir.Syntax.{w64}
use Rattle.big_endian.specs.Bytes.{point_at}
use Rattle.big_endian.proofs.Laws.Signed.{held}
use Rattle.big_endian.proofs.read.point_at.Goals as goal

pub returns : goal.returns
unfolding point_at
returns c =
    let x = c.before.before.before.coordinate_at in
    let y = c.before.before.coordinate_at-2 in
    let z = c.coordinate_at-3 in
    rw (held w64 x.type_inv x.ensures, held w64 y.type_inv y.ensures, held w64 z.type_inv z.ensures)

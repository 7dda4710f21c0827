-- `vertex_at` meets its contract.
use mir.Syntax.{w64}
use Rattle.integers.proofs.Compare.{result_same}
use Rattle.polygon.specs.Vertices.{vertex_at}
use Rattle.polygon.proofs.vertices.vertex_at.Goals as goal

pub returns : goal.returns
unfolding vertex_at
returns c =
    let x = c.before.before.number_at-x in
    let y = c.before.number_at-y in
    let z = c.number_at-z in
    cc (
      result_same w64 x.result x.type_inv x.ensures,
      result_same w64 y.result y.type_inv y.ensures,
      result_same w64 z.result z.type_inv z.ensures,
    )

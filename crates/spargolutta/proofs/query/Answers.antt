-- `query` meets its contract: each of C's three numbers is widened, and stays the same.
use mathlib.Core.Path.{◌∙◌}
use mir.Syntax.{w64}
use Rattle.integers.proofs.Compare.{result_same}
use Rattle.spargolutta.specs.Query.{query_of}
use Rattle.spargolutta.proofs.Handed.{handed}
use Rattle.spargolutta.proofs.query.Goals as goal

pub returns : goal.returns
returns c =
    let x = c.from in
    let y = c.from-2 in
    let z = c.from-3 in
    let f = c.ranges in
    (λ i. query_of
    (result_same w64 x.result x.type_inv x.ensures i)
    (result_same w64 y.result y.type_inv y.ensures i)
    (result_same w64 z.result z.type_inv z.ensures i))
    ∙ handed _ _ _ f.x f.y f.z

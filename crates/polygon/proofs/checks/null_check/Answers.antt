-- `null_check` meets its contract: the closure is the line's test.
use mathlib.Core.Path.{ap, ◌∙◌}
use Rattle.sphere.specs.Point.{is_null}
use Rattle.answer.specs.Chain.{fails_at}
use Rattle.polygon.specs.Vertices.{vertex_at}
use Rattle.polygon.specs.Checks.{null_check}
use Rattle.polygon.proofs.checks.null_check.Goals as goal

pub returns : goal.returns
unfolding null_check
returns c =
    let a = c.args in
    c.fails_at.ensures ∙ ap (fails_at _) (c.first_below-found.ensures (λ i. is_null (vertex_at a.vertices.now i)) (λ i b h told. told))

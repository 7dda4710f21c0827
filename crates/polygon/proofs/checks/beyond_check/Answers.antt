-- `beyond_check` meets its contract: the closure is the line's test.
use mathlib.Core.Path.{ap, ◌∙◌}
use Rattle.sphere.specs.Point.{limit_of, is_beyond}
use Rattle.answer.specs.Chain.{fails_at}
use Rattle.polygon.specs.Vertices.{vertex_at}
use Rattle.polygon.specs.Checks.{beyond_check}
use Rattle.polygon.proofs.checks.beyond_check.Goals as goal

pub returns : goal.returns
unfolding beyond_check
returns c =
    let a = c.args in
    c.fails_at.ensures ∙ ap (fails_at _) (c.first_below-found.ensures (λ i. is_beyond (limit_of a.grid) (vertex_at a.vertices.now i)) (λ i b h told. told))

-- `antipodal_check` meets its contract: the closure is the line's test.
use mathlib.Core.Path.{ap, ◌∙◌}
use Rattle.sphere.specs.Direction.{is_antipodal}
use Rattle.answer.specs.Chain.{fails_at}
use Rattle.polygon.specs.Vertices.{start_of, end_of}
use Rattle.polygon.specs.Checks.{antipodal_check}
use Rattle.polygon.proofs.checks.antipodal_check.Goals as goal

pub returns : goal.returns
unfolding antipodal_check
returns c =
    let a = c.args in
    c.fails_at.ensures ∙ ap (fails_at _) (c.first_below-found.ensures (λ i. is_antipodal (start_of a.vertices.now i) (end_of a.vertices.now i)) (λ i b h told. told))

-- `far_check` meets its contract.
use mathlib.Core.Path.{ap, ◌∙◌}
use Rattle.answer.specs.Chain.{fails_if}
use Rattle.polygon.specs.Checks.{far_check}
use Rattle.polygon.proofs.checks.far_check.Goals as goal

pub returns : goal.returns
unfolding far_check
returns c = c.fails_if.ensures ∙ ap (fails_if _) c.before.antipodal.ensures

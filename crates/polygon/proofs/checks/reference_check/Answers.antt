-- `reference_check` meets its contract.
use mathlib.Core.Path.{ap, ◌∙◌}
use Rattle.answer.specs.Chain.{fails_if}
use Rattle.polygon.specs.Checks.{reference_check}
use Rattle.polygon.proofs.checks.reference_check.Goals as goal

pub returns : goal.returns
unfolding reference_check
returns c = c.fails_if.ensures ∙ ap (fails_if _) c.before.is_off_grid.ensures

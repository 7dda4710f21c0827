-- `query_check` meets its contract.
use mathlib.Core.Path.{ap, ◌∙◌}
use Rattle.answer.specs.Chain.{fails_if}
use Rattle.polygon.specs.Checks.{query_check}
use Rattle.polygon.proofs.checks.query_check.Goals as goal

pub returns : goal.returns
unfolding query_check
returns c = c.fails_if.ensures ∙ ap (fails_if _) c.before.is_off_grid.ensures

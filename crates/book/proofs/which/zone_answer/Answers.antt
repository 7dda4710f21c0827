-- `which::zone_answer` meets its contract.
use mathlib.Core.Path.{sym, ap, ◌∙◌}
use Rattle.std.specs.declared.result.Result.TheVariants.{Err}
use Rattle.book.specs.Which.{grid_number_of}
use Rattle.book.proofs.Laws.Zones.{zone_named, zone_other}
use Rattle.book.proofs.which.zone_answer.Goals as goal

pub returns-then-grid-grid_number : goal.returns-then-grid-grid_number
returns-then-grid-grid_number c =
    ap Err c.at.ensures
    ∙ sym (zone_other _ _ _ (λ e. c.if-grid-grid_number.true (e ∙ sym (c.grid_number.ensures ∙ ap grid_number_of c.grid.ensures))))

pub returns : goal.returns
returns c =
    c.judge.ensures
    ∙ sym (zone_named _ _ _ (c.if-grid-grid_number.false ∙ c.grid_number.ensures ∙ ap grid_number_of c.grid.ensures))

-- `reading::spg_sheet_number` meets its contract.
use mathlib.Core.Path.{ap, ◌∙◌}
use Rattle.answer.specs.Answer.{number_of}
use Rattle.spargolutta.proofs.reading.spg_sheet_number.Goals as goal

pub returns : goal.returns
returns c = c.number.ensures ∙ ap (λ s. number_of s.answer) c.read-s.ensures

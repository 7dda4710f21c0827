-- `spg_choose_number` meets its contract.
use mathlib.Core.Path.{◌∙◌, ap}
use Rattle.answer.specs.Answer.{number_of}
use Rattle.spargolutta.proofs.spg_choose_number.Goals as goal

pub returns : goal.returns
returns c = c.number.ensures ∙ ap number_of c.choose.ensures

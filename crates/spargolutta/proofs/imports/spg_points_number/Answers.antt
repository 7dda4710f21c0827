-- `imports::spg_points_number` meets its contract.
use mathlib.Core.Path.{ap, ◌∙◌}
use Rattle.answer.specs.Answer.{number_of}
use Rattle.spargolutta.proofs.imports.spg_points_number.Goals as goal

pub returns : goal.returns
returns c =
    let f = c.fill_points.ensures in record {
      value = c.number.ensures ∙ ap number_of f.value;
      points_after = f.points_after;
    }

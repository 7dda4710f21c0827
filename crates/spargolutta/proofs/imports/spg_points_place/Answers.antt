-- `imports::spg_points_place` meets its contract.
use mathlib.Core.Path.{ap, ◌∙◌}
use Rattle.answer.specs.Answer.{place_of}
use Rattle.spargolutta.proofs.imports.spg_points_place.Goals as goal

pub returns : goal.returns
returns c = c.place.ensures ∙ ap place_of c.points_answer.ensures

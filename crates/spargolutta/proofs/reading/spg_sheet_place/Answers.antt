-- `reading::spg_sheet_place` meets its contract.
use mathlib.Core.Path.{ap, ◌∙◌}
use Rattle.answer.specs.Answer.{place_of}
use Rattle.spargolutta.proofs.reading.spg_sheet_place.Goals as goal

pub returns : goal.returns
returns c = c.place.ensures ∙ ap (λ s. place_of s.answer) c.read-s.ensures

-- `reading::spg_sheet_name_place` meets its contract.
use mathlib.Core.Path.{ap}
use Rattle.spargolutta.proofs.reading.spg_sheet_name_place.Goals as goal

pub returns : goal.returns
returns c = ap (λ s. s.name_at) c.read.ensures

-- `reading::spg_sheet_zone` meets its contract.
use mathlib.Core.Path.{ap}
use Rattle.spargolutta.proofs.reading.spg_sheet_zone.Goals as goal

pub returns : goal.returns
returns c = ap (λ s. s.zone) c.read.ensures

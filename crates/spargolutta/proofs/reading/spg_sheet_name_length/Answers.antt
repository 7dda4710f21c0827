-- `reading::spg_sheet_name_length` meets its contract.
use mathlib.Core.Path.{ap}
use Rattle.spargolutta.proofs.reading.spg_sheet_name_length.Goals as goal

pub returns : goal.returns
returns c = ap (λ s. s.name_len) c.read.ensures

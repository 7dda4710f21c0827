-- `reading::spg_sheet_charset` meets its contract.
use mathlib.Core.Path.{ap}
use Rattle.spargolutta.proofs.reading.spg_sheet_charset.Goals as goal

pub returns : goal.returns
returns c = ap (λ s. s.charset) c.read.ensures

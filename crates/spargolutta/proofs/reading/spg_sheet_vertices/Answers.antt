-- `reading::spg_sheet_vertices` meets its contract.
use mathlib.Core.Path.{ap}
use Rattle.spargolutta.proofs.reading.spg_sheet_vertices.Goals as goal

pub returns : goal.returns
returns c = ap (λ s. s.vertex_count) c.read.ensures

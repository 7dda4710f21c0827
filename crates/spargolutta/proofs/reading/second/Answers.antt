-- `reading::second` meets its contract.
use mathlib.Core.Path.{ap, ◌∙◌}
use Rattle.sheet.specs.declared.read.Sheet.{Sheet}
use Rattle.spargolutta.specs.Reading.{point_numbers}
use Rattle.spargolutta.proofs.Read.{read_points}
use Rattle.spargolutta.proofs.reading.second.Goals as goal

pub numbers-requires : goal.numbers-requires
numbers-requires c = rw c.read-s.ensures (read_points c.args.sheet.now).at_second

pub returns : goal.returns
returns c = c.numbers.ensures ∙ ap (λ (s : Sheet). point_numbers s.second) c.read-s.ensures

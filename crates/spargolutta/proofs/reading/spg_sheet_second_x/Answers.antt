-- `reading::spg_sheet_second_x` meets its contract.
use mathlib.Core.Path.{ap, ◌∙◌}
use mir.Syntax.{w32}
use mir.ValLaws.{to_z-of_z}
use Rattle.angles.proofs.Numbers.{numbers_of_lem}
use Rattle.angles.specs.declared.point.GridNumbers.{GridNumbers}
use Rattle.spargolutta.proofs.reading.spg_sheet_second_x.Goals as goal

pub returns : goal.returns
returns c =
    let w = numbers_of_lem c.second-p.result c.struct_told-1.given in
    to_z-of_z w32 _ w.at_x ∙ ap (λ (v : GridNumbers). v.x) c.second-p.ensures

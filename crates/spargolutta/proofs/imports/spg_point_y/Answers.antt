-- `imports::spg_point_y` meets its contract.
use mathlib.Core.Path.{ap, ◌∙◌}
use Rattle.angles.proofs.Numbers.{handed, numbers_of_lem}
use mir.Syntax.{w32}
use mir.ValLaws.{to_z-of_z}
use Rattle.angles.specs.declared.point.GridNumbers.{GridNumbers}
use Rattle.angles.specs.Point.{grid_numbers_of}
use Rattle.spargolutta.proofs.imports.spg_point_y.Goals as goal

pub returns : goal.returns
returns c =
    let f = c.ranges in
    let w = numbers_of_lem c.point_of-v.result c.struct_told-1.given in
    to_z-of_z w32 _ w.at_y
    ∙ ap (λ (v : GridNumbers). v.y)
    (c.point_of-v.ensures ∙ ap grid_numbers_of (handed _ _ f.longitude f.latitude))

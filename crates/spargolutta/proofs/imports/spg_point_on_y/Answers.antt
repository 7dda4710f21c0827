-- `imports::spg_point_on_y` meets its contract.
use mathlib.Core.Path.{ap, ◌∙◌}
use Rattle.angles.proofs.Numbers.{handed, numbers_of_lem}
use mir.Syntax.{w32}
use mir.ValLaws.{to_z-of_z}
use Rattle.angles.specs.declared.point.GridNumbers.{GridNumbers}
use Rattle.angles.specs.declared.point.Position.{Position}
use Rattle.degrees.specs.Points.{point_on}
use Rattle.spargolutta.proofs.imports.spg_point_on_y.Goals as goal

pub returns : goal.returns
returns c =
    let f = c.ranges in
    let w = numbers_of_lem c.point_on-v.result c.struct_told-1.given in
    to_z-of_z w32 _ w.at_y
    ∙ ap (λ (v : GridNumbers). v.y)
    (c.point_on-v.ensures ∙ ap (λ (p : Position). point_on p c.args.grid) (handed _ _ f.longitude f.latitude))

-- `imports::spg_point_on_number` meets its contract.
use mathlib.Core.Path.{ap, ◌∙◌}
use Rattle.angles.specs.declared.point.Position.{Position}
use Rattle.degrees.specs.Points.{point_on_number}
use Rattle.angles.proofs.Numbers.{handed}
use Rattle.spargolutta.proofs.imports.spg_point_on_number.Goals as goal

pub returns : goal.returns
returns c =
    let f = c.ranges in
    c.point_on_number.ensures ∙ ap (λ (p : Position). point_on_number p c.args.grid) (handed _ _ f.longitude f.latitude)

-- `imports::spg_point_number` meets its contract.
use mathlib.Core.Path.{ap, ◌∙◌}
use Rattle.angles.specs.Point.{point_number}
use Rattle.angles.proofs.Numbers.{handed}
use Rattle.spargolutta.proofs.imports.spg_point_number.Goals as goal

pub returns : goal.returns
returns c =
    let f = c.ranges in
    c.point_number.ensures ∙ ap point_number (handed _ _ f.longitude f.latitude)

-- `spg_judge_looked` meets its contract.
use mathlib.Core.Path.{◌∙◌, ap}
use Rattle.zone.specs.Judge.{sheet_looked_of}
use Rattle.spargolutta.proofs.Handed.{handed}
use Rattle.spargolutta.proofs.spg_judge_looked.Goals as goal

pub returns : goal.returns
returns c =
    let f = c.ranges in
    c.looked.ensures
    ∙ ap (sheet_looked_of c.args.sheet.now) (c.query.ensures ∙ handed _ _ _ f.x f.y f.z)

-- `answer` meets its contract.
use mathlib.Core.Path.{◌∙◌, ap}
use Rattle.zone.specs.Judge.{sheet_answer_of}
use Rattle.spargolutta.proofs.Handed.{handed}
use Rattle.spargolutta.proofs.answer.Goals as goal

pub returns : goal.returns
returns c =
    let f = c.ranges in
    c.judge.ensures
    ∙ ap (sheet_answer_of c.args.sheet.now) (c.query.ensures ∙ handed _ _ _ f.x f.y f.z)

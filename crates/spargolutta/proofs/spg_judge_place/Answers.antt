-- `spg_judge_place` meets its contract.
use mathlib.Core.Path.{◌∙◌, ap}
use Rattle.answer.specs.Answer.{place_of}
use Rattle.spargolutta.proofs.Handed.{handed_answer}
use Rattle.spargolutta.proofs.spg_judge_place.Goals as goal

pub returns : goal.returns
returns c =
    let f = c.ranges in
    c.place.ensures
    ∙ ap place_of (c.answer.ensures ∙ handed_answer c.args.sheet.now _ _ _ f.x f.y f.z)

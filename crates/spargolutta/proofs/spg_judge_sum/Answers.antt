-- `spg_judge_sum` meets its contract.
use mathlib.Core.Path.{◌∙◌, ap}
use mir.Syntax.{w32}
use Rattle.integers.proofs.Compare.{result_same}
use Rattle.answer.specs.Answer.{sum_of}
use Rattle.spargolutta.proofs.Handed.{handed_answer}
use Rattle.spargolutta.proofs.spg_judge_sum.Goals as goal

pub returns : goal.returns
returns c =
    let f = c.ranges in
    let r = c.sum in
    result_same w32 r.result r.type_inv r.ensures
    ∙ ap sum_of (c.answer.ensures ∙ handed_answer c.args.sheet.now _ _ _ f.x f.y f.z)

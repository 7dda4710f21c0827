-- `writing::spg_write_place` meets its contract.
use mathlib.Core.Path.{ap, ◌∙◌}
use Rattle.answer.specs.Answer.{place_of}
use Rattle.spargolutta.specs.Writing.{bytes_write_of}
use Rattle.spargolutta.proofs.Handed.{handed}
use Rattle.spargolutta.proofs.writing.spg_write_place.Goals as goal

pub returns : goal.returns
returns c =
    let i = c.args in
    let f = c.ranges in
    let k = c.query-known.ensures ∙ handed _ _ _ f.x f.y f.z in
    let s = c.query-second.ensures ∙ handed _ _ _ f.u f.v f.w in
    c.place.ensures
    ∙ ap place_of (c.answer_list.ensures
    ∙ (λ j. bytes_write_of i.charset i.name.now (k j) (s j) i.vertices.now i.grid i.room))

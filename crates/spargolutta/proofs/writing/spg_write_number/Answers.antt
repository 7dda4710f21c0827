-- `writing::spg_write_number` meets its contract.
use mathlib.Core.Path.{ap, ◌∙◌}
use lib.ListN.{length}
use Rattle.answer.specs.Answer.{number_of}
use Rattle.spargolutta.proofs.Handed.{handed}
use Rattle.spargolutta.proofs.Wrote.{wrote, wrote_to, carried, carried_to}
use Rattle.spargolutta.proofs.writing.spg_write_number.Goals as goal

pub returns : goal.returns
returns c =
    let i = c.args in
    let f = c.ranges in
    let k = c.query-known.ensures ∙ handed _ _ _ f.x f.y f.z in
    let s = c.query-second.ensures ∙ handed _ _ _ f.u f.v f.w in
    let e = c.write_list.ensures in
    let a = wrote e.value in
    let b = wrote_to e.sheet_after in record {
      value = c.number.ensures
          ∙ ap number_of (carried i.charset i.name.now c.query-known.result c.query-second.result i.vertices.now i.grid
          (length i.sheet.now) a k s);
      sheet_after = carried_to i.zone i.charset i.name.now c.query-known.result c.query-second.result i.vertices.now
          i.grid i.sheet.now b k s;
    }

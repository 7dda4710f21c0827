-- `imports::spg_import_fine_number` meets its contract.
use mathlib.Core.Path.{ap, ◌∙◌}
use Rattle.spargolutta.proofs.Handed.{handed}
use Rattle.sphere.specs.declared.point.Point.{Point}
use Rattle.sphere.specs.declared.point.Grid.TheVariants.{Fine}
use lib.ListN.{length}
use Rattle.answer.specs.Answer.{number_of}
use Rattle.geojson.specs.Import.{import_on, imported_on}
use Rattle.spargolutta.proofs.imports.spg_import_fine_number.Goals as goal

pub returns : goal.returns
returns c =
    let i = c.args in
    let g = c.ranges in
    let f = c.import.ensures in
    let p = c.query.ensures ∙ handed _ _ _ g.x g.y g.z in record {
      value = c.number.ensures
          ∙ ap number_of (f.value ∙ ap (λ (q : Point). import_on Fine i.text.now i.charset i.name.now q
          (length i.sheet.now)) p);
      sheet_after = f.buffer_after ∙ ap (λ (q : Point). imported_on Fine i.zone i.text.now i.charset i.name.now q i.sheet.now) p;
    }

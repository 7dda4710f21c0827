-- `imports::spg_import_fine_place` meets its contract.
use mathlib.Core.Path.{ap, ◌∙◌}
use Rattle.spargolutta.proofs.Handed.{handed}
use Rattle.sphere.specs.declared.point.Point.{Point}
use Rattle.sphere.specs.declared.point.Grid.TheVariants.{Fine}
use Rattle.answer.specs.Answer.{place_of}
use Rattle.geojson.specs.Import.{import_on}
use Rattle.spargolutta.proofs.imports.spg_import_fine_place.Goals as goal

pub returns : goal.returns
returns c =
    let i = c.args in
    let g = c.ranges in
    let p = c.query.ensures ∙ handed _ _ _ g.x g.y g.z in
    c.place.ensures
    ∙ ap place_of (c.import_answer.ensures
    ∙ ap (λ (q : Point). import_on Fine i.text.now i.charset i.name.now q i.room) p)

-- `imports::spg_import_place` meets its contract.
use mathlib.Core.Path.{ap, ◌∙◌}
use Rattle.spargolutta.proofs.Handed.{handed}
use Rattle.sphere.specs.declared.point.Point.{Point}
use Rattle.answer.specs.Answer.{place_of}
use Rattle.geojson.specs.Import.{import_of}
use Rattle.spargolutta.proofs.imports.spg_import_place.Goals as goal

pub returns : goal.returns
returns c =
    let i = c.args in
    let g = c.ranges in
    let p = c.query.ensures ∙ handed _ _ _ g.x g.y g.z in
    c.place.ensures
    ∙ ap place_of (c.import_answer.ensures
    ∙ ap (λ (q : Point). import_of i.text.now i.charset i.name.now q i.room) p)

-- `choose::earliest_of` meets its contract: the closure tells candidate i.
use mathlib.Core.Path.{refl, sym, ◌∙◌}
use Rattle.sphere.specs.Point.{limit_of}
use Rattle.polygon.specs.Vertices.{vertex_at}
use Rattle.zone.specs.Choose.{candidates_of}
use Rattle.zone.proofs.Laws.Candidates.{chosen_accepted}
use Rattle.zone.proofs.choose.earliest_of.Goals as goal

pub returns : goal.returns
returns c =
    let a = c.args in
    c.earliest.ensures (vertex_at (candidates_of a.candidates.now)) (λ i p h told. told)
    ∙ sym (chosen_accepted (limit_of a.grid) a.vertices.now a.known a.candidates.now c.requires.0 refl)

-- `is_on_circle` meets its contract.
use Rattle.polygon.proofs.Laws.Edges.{ends_within}
use Rattle.polygon.proofs.quick.is_on_circle.Goals as goal

pub on_circle-requires : goal.on_circle-requires
on_circle-requires c =
    let s = c.before.before in
    let ends = ends_within s.requires.1 s.requires.0 c.before.vertex_at.ensures c.end_of.ensures in
    (ends.0, ends.1, s.requires.2)

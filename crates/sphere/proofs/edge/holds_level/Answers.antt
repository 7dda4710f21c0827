-- `holds_level` meets its contract.
use Rattle.sphere.specs.OnEdge.{is_on_edge}
use Rattle.sphere.proofs.edge.holds_level.Goals as goal

pub returns : goal.returns
unfolding is_on_edge
returns c =
    let s = c.before.before.before.before in
    rw (
      s.requires.p_value,
      ← c.before.before.before.cross.ensures,
      ← c.before.before.cross-2.ensures,
      ← c.before.cross-3.ensures,
    )
    c.held_by.ensures

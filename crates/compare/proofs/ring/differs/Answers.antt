-- `ring::differs` meets its contract: both vertices are points of the fine grid.
use Rattle.compare.proofs.Laws.Ring.{sound_within}
use Rattle.compare.proofs.ring.differs.Goals as goal

pub same_direction-requires : goal.same_direction-requires
same_direction-requires c = (
  sound_within c.vertex_in.ensures c.requires.sound.0 c.requires.i_bound.0,
  sound_within c.vertex_in-2.ensures c.requires.sound.1 c.requires.i_bound.1,
)

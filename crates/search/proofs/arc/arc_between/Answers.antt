-- `arc_between` meets its contract.
use Rattle.search.specs.Arc.{arc_of}
use Rattle.search.proofs.arc.arc_between.Goals as goal

pub returns : goal.returns
unfolding arc_of
returns c = rw c.plane_through.ensures

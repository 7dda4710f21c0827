-- The measure of the cycle of calls {grow} is the depth.
use Rattle.cones.proofs.grow.+grow.Given as goal

abbrev pub decreases-grow : goal.decreases-grow
decreases-grow l = l.cone.depth

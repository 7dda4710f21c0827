-- `walk_near` meets its contract: `tell` goes on to the next entry of which it is not sure, and that one is tested.
use Prim.Native.Nat.{◌-◌}
use Rattle.cones.specs.Cones.{Coming}
use Rattle.cones.proofs.told.walk_near.Given as goal

abbrev pub invariant-loop-told : goal.invariant-loop-told
invariant-loop-told l = Coming l.vertices l.known l.query l.list l.to l.told

abbrev pub decreases-loop-told : goal.decreases-loop-told
decreases-loop-told l = l.to - l.told.at

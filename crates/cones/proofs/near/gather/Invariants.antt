-- `gather` meets its contract.
use Prim.Native.Nat.{◌-◌}
use Rattle.azimuths.specs.Sectors.{is_missed_at}
use Rattle.cones.proofs.Laws.Near.{Gathering}
use Rattle.cones.proofs.near.gather.Given as goal

abbrev pub invariant-loop-e : goal.invariant-loop-e
invariant-loop-e l =
    Gathering (is_missed_at l.sectors l.k) l.list l.initial.near l.near l.from l.to l.end l.e

abbrev pub decreases-loop-e : goal.decreases-loop-e
decreases-loop-e l = l.to - l.e

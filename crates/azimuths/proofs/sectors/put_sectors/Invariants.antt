-- `put_sectors` meets its contract.
use Prim.Native.Nat.{◌-◌}
use Rattle.azimuths.proofs.Laws.SectorsTo.{SectorsTo}
use Rattle.azimuths.proofs.sectors.put_sectors.Given as goal

abbrev pub invariant-loop-i : goal.invariant-loop-i
invariant-loop-i l =
    SectorsTo l.vertices l.known l.frame l.initial.sectors l.sectors l.first l.i

abbrev pub decreases-loop-i : goal.decreases-loop-i
decreases-loop-i l = l.n - l.i

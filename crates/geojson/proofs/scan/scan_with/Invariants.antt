-- After i bytes the code keeps what the first i bytes have, and the text is alive.
use Prim.Native.Nat.{◌-◌}
use lib.ListN.{length}
use Rattle.geojson.proofs.Loop.{Kept}
use Rattle.geojson.proofs.scan.scan_with.Given as goal

abbrev pub invariant-loop-i : goal.invariant-loop-i
invariant-loop-i l = Kept l.grid l.text l.i l.s l.r l.out

abbrev pub decreases-loop-i : goal.decreases-loop-i
decreases-loop-i l = length l.text - l.i

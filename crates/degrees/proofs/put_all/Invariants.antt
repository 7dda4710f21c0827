-- `put_all` meets its contract: before position i the first i points are stored.
use mathlib.Core.Path.{◌≡◌}
use Prim.Native.Nat.{◌-◌, ◌≤◌}
use lib.ListN.{length}
use lib.Seq.{sets}
use Rattle.big_endian.specs.Bytes.{rows_of}
use Rattle.degrees.specs.Points.{point_bytes_of}
use Rattle.degrees.proofs.put_all.Given as goal

abbrev pub invariant-loop-i : goal.invariant-loop-i
invariant-loop-i l =
    (l.i ≤ l.n) × (length l.points ≡ length l.initial.points) × (l.points ≡ sets l.initial.points 0 (rows_of (point_bytes_of l.grid l.degrees) l.i))

abbrev pub decreases-loop-i : goal.decreases-loop-i
decreases-loop-i l = l.n - l.i

-- `read::decode_eights` meets its contract: the numbers of the turns before j are decoded.
use mathlib.Core.Path.{◌≡◌}
use mathlib.Core.List.{◌++◌}
use Prim.Native.Nat.{◌*◌, ◌-◌, ◌≤◌}
use lib.ListN.{length, drop}
use Rattle.big_endian.specs.Bytes.{ints_at}
use Rattle.big_endian.proofs.read.decode_eights.Given as goal

abbrev pub invariant-loop-j : goal.invariant-loop-j
invariant-loop-j l =
    (l.j ≤ l.eights) × (length l.out ≡ length l.initial.out) × (l.out ≡ ints_at l.b l.at (l.j * 8) ++ drop (l.j * 8) l.initial.out)

abbrev pub decreases-loop-j : goal.decreases-loop-j
decreases-loop-j l = l.eights - l.j

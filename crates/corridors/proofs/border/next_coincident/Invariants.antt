-- `next_coincident` meets its contract: the edges from i on, before the one at hand, do not join the two directions.
use Prim.Native.Nat.{◌-◌, ◌≤◌}
use Rattle.corridors.specs.Marked.{Unjoined}
use Rattle.corridors.proofs.border.next_coincident.Given as goal

abbrev pub invariant-loop-j : goal.invariant-loop-j
invariant-loop-j l = Unjoined l.vertices l.c l.d l.i l.j × (l.j ≤ l.to) × (l.turn ≤ l.j)

abbrev pub decreases-loop-j : goal.decreases-loop-j
decreases-loop-j l = l.to - l.j

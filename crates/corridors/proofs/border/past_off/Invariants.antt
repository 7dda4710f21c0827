-- `past_off` meets its contract: the vertices from i on, before the one at hand, are off c.
use Prim.Native.Nat.{◌-◌, ◌≤◌}
use Rattle.corridors.specs.Marked.{OffBetween}
use Rattle.corridors.proofs.border.past_off.Given as goal

abbrev pub invariant-loop-at : goal.invariant-loop-at
invariant-loop-at l = OffBetween l.vertices l.c l.i l.at × (l.at ≤ l.to)

abbrev pub decreases-loop-at : goal.decreases-loop-at
decreases-loop-at l = l.to - l.at

-- `walk_edges` meets its contract: what was tallied before the edge at hand, that edge, and those that a scan passes
-- are tallied before the next one.
use mathlib.Core.Bool.{Bool}
use mathlib.Core.List.{List}
use Prim.Native.Nat.{ℕ, ◌-◌, ◌≤◌}
use lib.IntN.{ℤ}
use Rattle.search.specs.declared.arc.Arc.{Arc}
use Rattle.search.specs.Scan.{Sided}
use Rattle.search.specs.Walk.{stops_at}
use Rattle.search.proofs.Laws.Tally.{TalliedOn}
use Rattle.search.proofs.walk.walk_edges.Given as goal

-- Before edge i: the side of its start, and what was tallied.
pub record Walked (vs : List ℤ) (arc : Arc) (stop : Bool) (from to i : ℕ) (side : ℤ) (crossed : ℕ) (sum : ℤ) : Type 0 where
  pub after : from ≤ i
  pub before : i ≤ to
  pub start : Sided vs arc.plane.normal i side
  pub tallied : TalliedOn (stops_at vs arc.to stop) vs arc.from arc.to from i crossed sum

abbrev pub invariant-loop-arc : goal.invariant-loop-arc
invariant-loop-arc l =
    Walked l.vertices l.arc l.stop l.from l.to l.i l.side l.crossed l.sum

abbrev pub decreases-loop-arc : goal.decreases-loop-arc
decreases-loop-arc l = l.to - l.i

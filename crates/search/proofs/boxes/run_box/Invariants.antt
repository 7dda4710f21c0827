-- `run_box` meets its contract: the fold from edge i on of what it has so far is the whole fold.
use mathlib.Core.List.{List}
use Prim.Native.Nat.{ℕ, ◌+◌, ◌*◌, ◌-◌, ◌≤◌}
use lib.IntN.{ℤ}
use Rattle.sphere.specs.declared.point.Point.{Point}
use Rattle.search.specs.Boxes.{least_of, greatest_of}
use Rattle.search.proofs.Laws.Extremes.{Folded}
use Rattle.search.proofs.boxes.run_box.Given as goal

-- Before edge i. The last edge is left to the end.
pub record Grown (vs : List ℤ) (r last : ℕ) (low₀ low high : Point) (i : ℕ) : Type 0 where
  pub from : r * 32 ≤ i
  pub before : i ≤ last
  pub least : Folded least_of vs (r * 32) (last + 1) low₀ i low
  pub greatest : Folded greatest_of vs (r * 32) (last + 1) low₀ i high

abbrev pub invariant-loop-i : goal.invariant-loop-i
invariant-loop-i l = Grown l.vertices l.r l.last l.initial.low l.low l.high l.i

abbrev pub decreases-loop-i : goal.decreases-loop-i
decreases-loop-i l = l.last - l.i

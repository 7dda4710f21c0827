-- `is_border` meets its contract: what was counted of the edges that the entries before e cover, and entry e, are
-- counted of those that the entries before e + 1 cover. One that is coincident with edge i and before it settles it.
use mathlib.Core.List.{List}
use Prim.Native.Nat.{ℕ, ◌-◌, ◌≤◌}
use lib.IntN.{ℤ}
use Rattle.polygon.specs.Vertices.{start_of, end_of}
use Rattle.polygon.specs.Border.{is_coincident}
use Rattle.cones.proofs.Laws.Coincident.{Counted}
use Rattle.cones.proofs.walk.is_border.Given as goal

pub record Counting (vs : List ℤ) (l : List ℕ) (to i count e : ℕ) : Type 0 where
  pub before : e ≤ to
  pub counted : Counted (is_coincident vs (start_of vs i) (end_of vs i)) l 0 e count

abbrev pub invariant-loop-e : goal.invariant-loop-e
invariant-loop-e l = Counting l.vertices l.list l.to l.i l.count l.e

abbrev pub decreases-loop-e : goal.decreases-loop-e
decreases-loop-e l = l.to - l.e

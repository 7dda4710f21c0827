-- `next_other` meets its contract: after edge `first`, those before edge i that hold the query are of its class.
use mathlib.Core.Path.{◌≡◌}
use mathlib.Core.Bool.{true}
use mathlib.Core.List.{List}
use Prim.Native.Nat.{ℕ, ◌-◌, ◌≤◌, ◌<◌}
use lib.IntN.{ℤ}
use Rattle.sphere.specs.declared.point.Point.{Point}
use Rattle.polygon.specs.Vertices.{vertices_count, start_of, end_of}
use Rattle.polygon.specs.Border.{is_coincident}
use Rattle.polygon.specs.Verdict.{is_held_by}
use Rattle.search.proofs.border.next_other.Given as goal

pub record Passed (vs : List ℤ) (P : Point) (first i : ℕ) : Type 0 where
  pub after : first < i
  pub within : i ≤ vertices_count vs
  pub each : (j : ℕ) → first < j → j < i → is_held_by vs P j ≡ true →
      is_coincident vs (start_of vs first) (end_of vs first) j ≡ true

abbrev pub invariant-loop-i : goal.invariant-loop-i
invariant-loop-i l = Passed l.vertices l.arc.to l.first l.i

abbrev pub decreases-loop-i : goal.decreases-loop-i
decreases-loop-i l = vertices_count l.vertices - l.i

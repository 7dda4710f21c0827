-- `off_pairs` meets its contract: no edge before i holds the point, and `from` is vertex i.
use mathlib.Core.Path.{◌≡◌}
use mathlib.Core.List.{List}
use Prim.Native.Nat.{ℕ, ◌-◌, ◌<◌}
use lib.IntN.{ℤ}
use Rattle.sphere.specs.declared.point.Point.{Point}
use Rattle.answer.proofs.Laws.Search.{Searched}
use Rattle.polygon.specs.Vertices.{vertices_count, vertex_at}
use Rattle.polygon.specs.Lines.{is_on_circle}
use Rattle.polygon.proofs.quick.off_pairs.Given as goal

-- Before edge i.
pub record Walked (vs : List ℤ) (X from : Point) (i : ℕ) : Type 0 where
  pub below : i < vertices_count vs
  pub at : from ≡ vertex_at vs i
  pub past : Searched (is_on_circle vs X) (vertices_count vs) i

abbrev pub invariant-loop-i : goal.invariant-loop-i
invariant-loop-i l = Walked l.vertices l.point l.from l.i

abbrev pub decreases-loop-i : goal.decreases-loop-i
decreases-loop-i l = l.n - l.i

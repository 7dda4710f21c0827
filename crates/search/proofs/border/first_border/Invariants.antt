-- `first_border` meets its contract: before edge i none that holds the query is border.
use mathlib.Core.Path.{◌≡◌}
use Prim.Native.Nat.{◌-◌, ◌≤◌}
use lib.ListN.{length}
use Rattle.polygon.specs.Vertices.{vertices_count}
use Rattle.search.specs.Border.{Settled}
use Rattle.search.proofs.border.first_border.Given as goal

abbrev pub invariant-loop-i : goal.invariant-loop-i
invariant-loop-i l =
    (l.i ≤ vertices_count l.vertices) × (length l.marks ≡ 4096) × Settled l.vertices l.arc.to l.i l.marks

abbrev pub decreases-loop-i : goal.decreases-loop-i
decreases-loop-i l = vertices_count l.vertices - l.i

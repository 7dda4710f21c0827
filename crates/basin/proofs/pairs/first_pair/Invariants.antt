-- `first_pair` meets its contract: nothing was found in the rows before i, nor in row i before j, whose side is at hand.
use mathlib.Core.Path.{◌≡◌}
use Prim.Native.Nat.{ℕ, ◌-◌, ◌+◌, ◌≤◌, ◌<◌}
use mathlib.Core.List.{List}
use lib.IntN.{ℤ}
use Rattle.integers.specs.Sign.{sign_of}
use Rattle.sphere.specs.declared.point.Point.{Point}
use Rattle.sphere.specs.Orientation.{orientation_of}
use Rattle.polygon.specs.Vertices.{vertices_count, start_of, end_of}
use Rattle.basin.specs.Pairs.{is_offending}
use Rattle.basin.proofs.Laws.Paired.{Paired, Row}
use Rattle.basin.proofs.pairs.first_pair.Given as goal

-- On which side of the plane of edge i a point lies.
abbrev pub turn_of : List ℤ → ℕ → Point → ℤ
turn_of vs i p = orientation_of (start_of vs i) (end_of vs i) p

abbrev pub invariant-loop-j : goal.invariant-loop-j
invariant-loop-j l =
    (l.i < l.j) × (l.j ≤ l.last + 1) × Row (is_offending l.vertices) (vertices_count l.vertices) l.i l.j
    × (l.j ≤ l.last → sign_of l.side ≡ sign_of (turn_of l.vertices l.i (start_of l.vertices l.j)))

abbrev pub decreases-loop-j : goal.decreases-loop-j
decreases-loop-j l = l.last + 1 - l.j

abbrev pub invariant-loop-i : goal.invariant-loop-i
invariant-loop-i l =
    (l.i ≤ l.last) × Paired (is_offending l.vertices) (vertices_count l.vertices) l.i

abbrev pub decreases-loop-i : goal.decreases-loop-i
decreases-loop-i l = l.last - l.i

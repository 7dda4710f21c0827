-- `next_near` meets its contract: the edges from j on, before the one at hand, are passed.
use mathlib.Core.Path.{◌≡◌}
use mathlib.Core.Bool.{true}
use mathlib.Core.List.{List}
use Prim.Native.Nat.{ℕ, ◌-◌, ◌≤◌, ◌<◌}
use lib.IntN.{ℤ}
use Rattle.integers.specs.Sign.{sign_of}
use Rattle.sphere.specs.declared.point.Point.{Point}
use Rattle.basin.specs.Pairs.{side_of, is_passed}
use Rattle.basin.proofs.pairs.next_near.Given as goal

-- On the way: the side of the vertex at hand, and what was passed.
pub record Scanned (vs : List ℤ) (N : Point) (j last edge : ℕ) (side : ℤ) : Type 0 where
  pub after : j ≤ edge
  pub before : edge ≤ last
  pub passed : (k : ℕ) → j ≤ k → k < edge → is_passed vs N k ≡ true
  pub known : sign_of side ≡ sign_of (side_of vs N edge)

abbrev pub invariant-loop-edge : goal.invariant-loop-edge
invariant-loop-edge l =
    Scanned l.vertices l.plane.normal l.j l.last l.edge l.start

abbrev pub decreases-loop-edge : goal.decreases-loop-edge
decreases-loop-edge l = l.last - l.edge

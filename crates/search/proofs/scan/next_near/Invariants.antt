-- `next_near` meets its contract: no edge from i on, before the one at hand, is near.
use mathlib.Core.List.{List}
use Prim.Native.Nat.{ℕ, ◌-◌}
use lib.IntN.{ℤ}
use Rattle.sphere.specs.declared.point.Point.{Point}
use Rattle.search.specs.Scan.{Scanning, Sided, is_near}
use Rattle.search.proofs.scan.next_near.Given as goal

pub record Scanned (vs : List ℤ) (N : Point) (i last edge : ℕ) (s1 : ℤ) : Type 0 where
  pub scan : Scanning (is_near vs N) i last edge
  pub side : Sided vs N edge s1

abbrev pub invariant-loop-edge : goal.invariant-loop-edge
invariant-loop-edge l = Scanned l.vertices l.plane.normal l.i l.last l.edge l.s1

abbrev pub decreases-loop-edge : goal.decreases-loop-edge
decreases-loop-edge l = l.last - l.edge

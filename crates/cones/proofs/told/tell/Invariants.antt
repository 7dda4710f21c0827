-- `tell` meets its contract: what is tallied before entry e, and what its edge says, is tallied before entry e + 1.
use mathlib.Core.List.{List}
use Prim.Native.Nat.{ℕ, ◌-◌, ◌≤◌}
use lib.IntN.{ℤ}
use Rattle.sphere.specs.declared.point.Point.{Point}
use Rattle.polygon.specs.Vertices.{vertices_count}
use Rattle.azimuths.specs.Sectors.{Idle, Telling}
use Rattle.cones.specs.Cones.{Complete, Walked}
use Rattle.cones.specs.declared.told.Told.{Told}
use Rattle.cones.proofs.told.tell.Given as goal

-- What the contract gives of the reference point X, which the loop does not see.
pub record Given (vs : List ℤ) (X P : Point) (sectors : List ℕ) (k : ℕ) (l : List ℕ) (to : ℕ) (told : Told) : Type 0 where
  pub telling : Telling vs X P sectors k
  pub complete : Complete (Idle vs X P) (vertices_count vs) l 0 to
  pub walked : Walked vs X P l told.at told.crossed told.sum

-- As far as the loop has come.
pub record Come (vs : List ℤ) (P : Point) (sectors : List ℕ) (k : ℕ) (l : List ℕ) (to : ℕ) (old told : Told) : Type 0 where
  pub after : old.at ≤ told.at
  pub before : told.at ≤ to
  pub walked : (X : Point) → Given vs X P sectors k l to old → Walked vs X P l told.at told.crossed told.sum

abbrev pub invariant-loop-told : goal.invariant-loop-told
invariant-loop-told l = Come l.vertices l.query l.sectors l.k l.list l.to l.initial.told l.told

abbrev pub decreases-loop-told : goal.decreases-loop-told
decreases-loop-told l = l.to - l.told.at

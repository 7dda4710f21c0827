-- The promised theorems of document 02, P2, as statements. Their proofs are in proofs/Claims. Stated, in order:
-- BoxHolds (each end of an edge is in its run's box), ApartExactly (a box is apart exactly when all of it lies strictly
-- on one side), SkippedMatterNot (an edge of a skipped run is neither crossed nor holds the query), NoneSkipped (if
-- the reference point and the query have one direction).
use Rattle.std.specs.Prelude.{◌≡◌, ◌⊎◌, true, false, List, ℕ, ◌*◌, ◌≤◌, ◌<◌, ℤ, pos, ◌<ℤ◌, ◌≤ℤ◌}
use Rattle.sphere.specs.declared.point.Point.{Point}
use Rattle.sphere.specs.Orientation.{dot_of}
use Rattle.sphere.specs.Direction.{is_same_direction}
use Rattle.polygon.specs.Vertices.{vertices_count, start_of, end_of}
use Rattle.polygon.specs.Checks.{accept_check}
use Rattle.polygon.specs.Verdict.{is_held_by, is_crossed}
use Rattle.search.specs.declared.boxes.Bounds.{Bounds}
use Rattle.search.specs.Boxes.{run_end, box_of, is_apart, is_skipped}
use Rattle.std.specs.declared.result.Result.TheVariants.{Ok}

-- No coordinate of p is beyond q's.
pub record Below (p q : Point) : Type 0 where
  pub at_x : p.x ≤ℤ q.x
  pub at_y : p.y ≤ℤ q.y
  pub at_z : p.z ≤ℤ q.z

pub record InBox (b : Bounds) (p : Point) : Type 0 where
  pub above : Below b.low p
  pub below : Below p b.high

-- Edge j is one of run r.
pub record InRun (vs : List ℤ) (r j : ℕ) : Type 0 where
  pub from : r * 32 ≤ j
  pub before : j < run_end (vertices_count vs) r

abbrev pub BoxHolds : Type 0
BoxHolds = (vs : List ℤ) (r j : ℕ) → InRun vs r j →
    InBox (box_of vs r) (start_of vs j) × InBox (box_of vs r) (end_of vs j)

abbrev pub AllAbove : Point → Bounds → Type 0
AllAbove N b = (p : Point) → InBox b p → pos 0 <ℤ dot_of N p

abbrev pub AllBelow : Point → Bounds → Type 0
AllBelow N b = (p : Point) → InBox b p → dot_of N p <ℤ pos 0

pub record Exactly (N : Point) (b : Bounds) : Type 0 where
  pub apart→one-side : is_apart N b ≡ true → AllAbove N b ⊎ AllBelow N b
  pub one-side→apart : AllAbove N b ⊎ AllBelow N b → is_apart N b ≡ true

abbrev pub ApartExactly : Type 0
ApartExactly = (N : Point) (b : Bounds) → Below b.low b.high → Exactly N b

abbrev pub SkippedMatterNot : Type 0
SkippedMatterNot = (limit : ℕ) (vs : List ℤ) (X P : Point) (r j : ℕ) →
    accept_check limit vs X ≡ Ok tt → is_skipped vs X P r ≡ true → InRun vs r j →
    (is_crossed vs X P j ≡ false) × (is_held_by vs P j ≡ false)

abbrev pub NoneSkipped : Type 0
NoneSkipped = (vs : List ℤ) (X P : Point) (r : ℕ) → is_same_direction X P ≡ true → is_skipped vs X P r ≡ false

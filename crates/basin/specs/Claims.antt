-- The promised theorems of this crate, as statements (document 02, P9). Stated, in order: SharedDecided, BeyondDecided
-- (the tests by signs say just what sharing means); Offends, BasinTold (the answer names the first offending pair, and
-- names none only where there is none). Their proofs are in proofs/Claims.
use Rattle.std.specs.Prelude.{◌≡◌, true, false, List, ℕ, ◌+◌, ◌<◌, ℤ, Ok, None, Some}
use Rattle.sphere.specs.declared.point.Point.{Point}
use Rattle.sphere.specs.Point.{is_null}
use Rattle.sphere.specs.Direction.{is_parallel, is_same_direction}
use Rattle.sphere.specs.OnEdge.{OnEdge}
use Rattle.polygon.specs.Vertices.{vertices_count, start_of, end_of}
use Rattle.basin.specs.Shared.{Shared, SharedBeyond, is_shared, is_shared_beyond}
use Rattle.basin.specs.Basin.{basin_check, basin_of}

-- Both ways, for edges whose ends are neither in one direction nor antipodal: lines 13 and 14 refuse the others.
pub record DecidedShared (A B C D : Point) : Type 0 where
  pub test→share : is_shared A B C D ≡ true → Shared A B C D
  pub share→test : Shared A B C D → is_shared A B C D ≡ true

pub record DecidedBeyond (U M W : Point) : Type 0 where
  pub test→share : is_shared_beyond U M W ≡ true → SharedBeyond U M W
  pub share→test : SharedBeyond U M W → is_shared_beyond U M W ≡ true

abbrev pub SharedDecided : Type 0
SharedDecided = (A B C D : Point) → is_parallel A B ≡ false → is_parallel C D ≡ false → DecidedShared A B C D

abbrev pub BeyondDecided : Type 0
BeyondDecided = (U M W : Point) → is_parallel U M ≡ false → is_parallel M W ≡ false → DecidedBeyond U M W

-- ---- the answer

-- Some direction lies on edge i and on the later edge j; of neighbours, one that is not their common vertex's.
pub record Offends (vs : List ℤ) (i j : ℕ) : Type 0 where
  pub order : i < j
  pub below : j < vertices_count vs
  pub point : Point
  pub some : is_null point ≡ false
  pub first : OnEdge (start_of vs i) (end_of vs i) point
  pub second : OnEdge (start_of vs j) (end_of vs j) point
  pub beyond_next : j ≡ i + 1 → is_same_direction point (end_of vs i) ≡ false
  pub beyond_last : i ≡ 0 → j + 1 ≡ vertices_count vs → is_same_direction point (start_of vs i) ≡ false

-- Where none of 10 to 14, 28 and 34 holds: no pair offends; or the pair named does, no pair with a lower first edge
-- does, nor one with the same first edge and a lower second.
pub record Told (g : ℕ) (vs : List ℤ) : Type 0 where
  pub simple : basin_of g vs ≡ Ok None → (i j : ℕ) → Offends vs i j → ⊥
  pub sharing : (i j : ℕ) → basin_of g vs ≡ Ok (Some (i, j)) → Offends vs i j
  pub lower_first : (i j : ℕ) → basin_of g vs ≡ Ok (Some (i, j)) → (h k : ℕ) → h < i → Offends vs h k → ⊥
  pub lower_second : (i j : ℕ) → basin_of g vs ≡ Ok (Some (i, j)) → (k : ℕ) → k < j → Offends vs i k → ⊥

abbrev pub BasinTold : Type 0
BasinTold = (g : ℕ) (vs : List ℤ) → basin_check g vs ≡ Ok tt → Told g vs

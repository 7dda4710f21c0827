-- Document 02, P9: the first offending pair of edges (document 01: sides), lowest first edge, then lowest second.
-- Defined, in order: is_offending, row_or, pairs_from, first_pair_of; of the code alone: Sides, side_of, is_passed, NearFrom.
-- What an offending pair is, in terms of points: Claims.Offends.
use Rattle.std.specs.Prelude.{◌≡◌, Bool, true, false, ◌&&◌, cond, List, ℕ, zero, suc, ◌+◌, ◌≤◌, ◌<◌, eqb, ℤ}
use Rattle.integers.specs.Sign.{sign_of}
use Rattle.sphere.specs.declared.point.Point.{Point}
use Rattle.sphere.specs.Orientation.{orientation_of, dot_of}
use Rattle.sphere.specs.Crossing.{is_beside}
use Rattle.std.specs.declared.option.Option.{Option}
use Rattle.std.specs.declared.option.Option.TheVariants.{None, Some}
use Rattle.answer.specs.Search.{first_from}
use Rattle.polygon.specs.Vertices.{vertices_count, vertex_at, start_of, end_of}
use Rattle.basin.specs.declared.pairs.Near.{Near}
use Rattle.basin.specs.Shared.{is_shared, is_shared_beyond}

-- Edge i and the later edge j. They are neighbours where j is i + 1, and where they are the first and the last.
unfoldable pub is_offending : List ℤ → ℕ → ℕ → Bool
is_offending vs i j =
    cond (eqb j (i + 1)) (is_shared_beyond (start_of vs i) (end_of vs i) (end_of vs j))
    (cond (eqb i 0 && eqb (j + 1) (vertices_count vs)) (is_shared_beyond (start_of vs j) (start_of vs i) (end_of vs i))
    (is_shared (start_of vs i) (end_of vs i) (start_of vs j) (end_of vs j)))

-- What the search in row i found, or else what the later rows have.
abbrev pub row_or : ℕ → Option ℕ → Option (ℕ × ℕ) → Option (ℕ × ℕ)
row_or i None later = later
row_or i (Some j) later = Some (i, j)

-- The rows i, i + 1, .. of k edges: each edge with those after it.
unfoldable pub pairs_from : (ℕ → ℕ → Bool) → ℕ → ℕ → Option (ℕ × ℕ)
pairs_from test i zero = None
pairs_from test i (suc k) = row_or i (first_from (test i) (suc i) k) (pairs_from test (suc i) k)

unfoldable pub first_pair_of : List ℤ → Option (ℕ × ℕ)
first_pair_of vs = pairs_from (is_offending vs) 0 (vertices_count vs)

-- ---- of the code alone

-- s1 and s2 say on which side of the plane of edge i edge j starts and ends.
pub record Sides (vs : List ℤ) (i j : ℕ) (s1 s2 : ℤ) : Type 0 where
  pub start : sign_of s1 ≡ sign_of (orientation_of (start_of vs i) (end_of vs i) (start_of vs j))
  pub end : sign_of s2 ≡ sign_of (orientation_of (start_of vs i) (end_of vs i) (end_of vs j))

-- On which side of the plane with normal N vertex k lies; and vertices k and k + 1 lie strictly on one side.
abbrev pub side_of : List ℤ → Point → ℕ → ℤ
side_of vs N k = dot_of N (vertex_at vs k)

abbrev pub is_passed : List ℤ → Point → ℕ → Bool
is_passed vs N k = is_beside (sign_of (side_of vs N k)) (sign_of (side_of vs N (k + 1)))

-- Where a scan of the edges from j on stops: at the first that is not passed, or at the last.
pub record NearFrom (vs : List ℤ) (N : Point) (j last : ℕ) (near : Near) : Type 0 where
  pub after : j ≤ near.edge
  pub before : near.edge ≤ last
  pub passed : (k : ℕ) → j ≤ k → k < near.edge → is_passed vs N k ≡ true
  pub stops : near.edge < last → is_passed vs N near.edge ≡ false
  pub start : sign_of near.start ≡ sign_of (dot_of N (start_of vs near.edge))
  pub end : sign_of near.end ≡ sign_of (dot_of N (end_of vs near.edge))

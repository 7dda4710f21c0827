-- Scans past edges that cannot matter: for the code alone. Defined, in order: stop_of, stop_from (where a scan stops),
-- Scanning; side_of, Sided, Strict, is_near, last_inner (by sides of a plane); is_one_sided, EndSides, NearFrom (by an arc).
use Rattle.std.specs.Prelude.{◌≡◌, Bool, true, not, cond, List, ℕ, ◌+◌, ◌-◌, ◌≤◌, ◌<◌, ltb, ℤ}
use Rattle.integers.specs.Sign.{positive, negative, sign_of}
use Rattle.sphere.specs.declared.point.Point.{Point}
use Rattle.sphere.specs.Orientation.{orientation_of, dot_of}
use Rattle.sphere.specs.Crossing.{is_beside}
use Rattle.std.specs.declared.option.Option.{Option}
use Rattle.std.specs.declared.option.Option.TheVariants.{None, Some}
use Rattle.answer.specs.Search.{first_from}
use Rattle.polygon.specs.Vertices.{vertices_count, vertex_at, start_of, end_of}
use Rattle.search.specs.declared.scan.Near.{Near}

-- The first of k numbers from i on at which the test holds, or their end.
abbrev pub stop_of : Option ℕ → ℕ → ℕ
stop_of None end = end
stop_of (Some i) end = i

unfoldable pub stop_from : (ℕ → Bool) → ℕ → ℕ → ℕ
stop_from test i k = stop_of (first_from test i k) (i + k)

-- On the way: the test holds nowhere from i on, before `at`, which is not past `last`.
pub record Scanning (test : ℕ → Bool) (i last at : ℕ) : Type 0 where
  pub after : i ≤ at
  pub before : at - i ≤ last - i
  pub none : first_from test i (at - i) ≡ None

-- ---- sides of a plane

-- On which side of the plane with normal N vertex i lies.
abbrev pub side_of : List ℤ → Point → ℕ → ℤ
side_of vs N i = dot_of N (vertex_at vs i)

-- `side` says so: it has the sign, where there is a vertex i.
pub record Sided (vs : List ℤ) (N : Point) (i : ℕ) (side : ℤ) : Type 0 where
  pub known : i < vertices_count vs → sign_of side ≡ sign_of (side_of vs N i)

-- Vertex i, where there is one, lies strictly on this side.
pub record Strict (vs : List ℤ) (N : Point) (above : Bool) (i : ℕ) : Type 0 where
  pub known : i < vertices_count vs → sign_of (side_of vs N i) ≡ cond above positive negative

-- The vertices i and i + 1 are not strictly on one side.
abbrev pub is_near : List ℤ → Point → ℕ → Bool
is_near vs N i = not (is_beside (sign_of (side_of vs N i)) (sign_of (side_of vs N (i + 1))))

-- The end of those of the edges before `to`, of n, that do not go back to vertex 0.
unfoldable pub last_inner : ℕ → ℕ → ℕ
last_inner n to = cond (ltb to n) to (n - 1)

-- ---- by the arc from X to P

-- Both ends of edge i are strictly on one side of the plane through X and P: the edge is not crossed, nor holds P.
abbrev pub is_one_sided : List ℤ → Point → Point → ℕ → Bool
is_one_sided vs X P i = is_beside (sign_of (orientation_of X P (start_of vs i))) (sign_of (orientation_of X P (end_of vs i)))

-- The sides of both ends of the edge.
pub record EndSides (vs : List ℤ) (X P : Point) (near : Near) : Type 0 where
  pub below : near.edge < vertices_count vs
  pub start : sign_of near.start ≡ sign_of (orientation_of X P (start_of vs near.edge))
  pub end : sign_of near.end ≡ sign_of (orientation_of X P (end_of vs near.edge))

-- Where a scan of the edges from i on, before `to`, stopped.
pub record NearFrom (vs : List ℤ) (X P : Point) (i to : ℕ) (near : Near) : Type 0 where
  pub after : i ≤ near.edge
  pub before : near.edge ≤ to
  pub passed : (j : ℕ) → i ≤ j → j < near.edge → is_one_sided vs X P j ≡ true
  pub ends : near.edge < to → EndSides vs X P near

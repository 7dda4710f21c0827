-- Vertices that are surely on one side of a plane, by floats (document 02, P8). Proved, in order: sure_side (of a float
-- that a loop worked out), strict_far (an edge whose ends are both strictly on that side is not near).
use mathlib.Core.Path.{◌≡◌, refl}
use mathlib.Core.Bool.{Bool, true, false, cond}
use mathlib.Core.List.{List}
use Prim.Native.Nat.{ℕ, ◌+◌, ◌<◌}
use lib.IntN.{ℤ}
use Rattle.integers.specs.Sign.{positive, negative, sign_of}
use Rattle.sphere.specs.declared.point.Point.{Point}
use Rattle.sphere.specs.declared.point.Grid.TheVariants.{Fine}
use Rattle.sphere.specs.declared.plane.Plane.{Plane}
use Rattle.sphere.specs.Point.{fine}
use Rattle.sphere.specs.Plane.{Sound}
use Rattle.sphere.specs.Crossing.{is_beside}
use Rattle.sphere.specs.Approximate.{float_dot_of, is_surely}
use Rattle.sphere.proofs.Laws.Approximate.{dot_near, surely_side}
use Rattle.sphere.proofs.Laws.Plane.{range_at, fine_exact}
use Rattle.polygon.specs.Accepted.{Gridded}
use Rattle.polygon.specs.Vertices.{vertices_count, vertex_at}
use Rattle.search.specs.Scan.{side_of, is_near}

module _ {vs : List ℤ} (p : Plane) (above : Bool) (grid : Gridded fine vs) (on : p.grid ≡ Fine) (sound : Sound p) where
  pub sure_side : (j : ℕ) → j < vertices_count vs → is_surely above (float_dot_of p.floats (vertex_at vs j)) ≡ true →
      sign_of (side_of vs p.normal j) ≡ cond above positive negative
  sure_side j h e =
      let near = dot_near p.floats p.normal _ (fine_exact p on sound) (range_at p on sound) (grid.each j h) in
      surely_side above _ _ near e

-- Two ends strictly on one side.
beside : (above : Bool) → is_beside (cond above positive negative) (cond above positive negative) ≡ true
beside true = refl
beside false = refl

pub strict_far : (vs : List ℤ) (N : Point) (above : Bool) (j : ℕ) →
    sign_of (side_of vs N j) ≡ cond above positive negative →
    sign_of (side_of vs N (j + 1)) ≡ cond above positive negative → is_near vs N j ≡ false
strict_far vs N above j s t = rw (s, t, beside above)

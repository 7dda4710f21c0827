-- Row i: its plane, and the edge where a scan of it stopped. Proved, in order: row_made, row_first (vertex i + 1 is in
-- the plane); near_start, near_end (the sides of that edge's ends are orientations), near_reached (none that was passed
-- offends).
use mathlib.Core.Path.{◌≡◌, refl, sym, ◌∙◌, ap, subst}
use mathlib.Core.Bool.{false}
use mathlib.Core.List.{List}
use Prim.Native.Nat.{ℕ, ◌+◌, ◌≤◌, ◌<◌}
use native.Mathlib.Omega.{arith}
use lib.IntN.{ℤ, pos}
use Rattle.integers.specs.Sign.{sign_of}
use Rattle.sphere.specs.declared.point.Point.{Point}
use Rattle.sphere.specs.declared.point.Grid.{Grid}
use Rattle.sphere.specs.declared.plane.Plane.{Plane}
use Rattle.sphere.specs.Point.{limit_of, Within}
use Rattle.sphere.specs.Orientation.{orientation_of}
use Rattle.sphere.specs.Crossing.{is_beside}
use Rattle.sphere.specs.Plane.{plane_of}
use Rattle.sphere.proofs.Laws.Plane.{Made, plane_made, made_turn}
use Rattle.polygon.specs.Vertices.{vertices_count, vertex_at, start_of, end_of}
use Rattle.polygon.specs.Accepted.{Gridded}
use Rattle.polygon.specs.Checks.{polygon_check}
use Rattle.polygon.proofs.Laws.Edges.{next_start}
use Rattle.basin.specs.declared.pairs.Near.{Near}
use Rattle.basin.specs.Pairs.{is_offending, NearFrom}
use Rattle.basin.proofs.Laws.Beyond.{level_self}
use Rattle.basin.proofs.Laws.Offending.{beside_passed}
use Rattle.basin.proofs.Laws.Paired.{Row, row_pass}
use Rattle.std.specs.declared.result.Result.TheVariants.{Ok}

pub row_made : (g : Grid) (vs : List ℤ) → Gridded (limit_of g) vs → (i : ℕ) → i + 1 < vertices_count vs →
    {a b : Point} {p : Plane} → a ≡ vertex_at vs i → b ≡ vertex_at vs (i + 1) → p ≡ plane_of g a b →
    Made g (start_of vs i) (end_of vs i) p
row_made g vs grid i low ea eb ep =
    let end = sym (next_start vs i (i + 1) refl low) in
    plane_made g (start_of vs i) (end_of vs i) (grid.each i (omega arith))
    (subst (Within (limit_of g)) end (grid.each (i + 1) low)) (ep ∙ λ t. plane_of g (ea t) ((eb ∙ end) t))

pub row_first : (vs : List ℤ) (i : ℕ) → i + 1 < vertices_count vs →
    sign_of (pos 0) ≡ sign_of (orientation_of (start_of vs i) (end_of vs i) (start_of vs (i + 1)))
row_first vs i low =
    ap sign_of (sym (level_self (start_of vs i) (end_of vs i))
    ∙ ap (orientation_of (start_of vs i) (end_of vs i)) (next_start vs i (i + 1) refl low))

-- ---- where a scan stopped
module _ (g : Grid) (vs : List ℤ) (e : polygon_check (limit_of g) vs ≡ Ok tt) (i : ℕ) {j last : ℕ} {p : Plane} {near : Near}
    (m : Made g (start_of vs i) (end_of vs i) p) (f : NearFrom vs p.normal j last near) where
  pub near_start : sign_of near.start ≡ sign_of (orientation_of (start_of vs i) (end_of vs i) (start_of vs near.edge))
  near_start = f.start ∙ ap sign_of (made_turn m (start_of vs near.edge))

  pub near_end : sign_of near.end ≡ sign_of (orientation_of (start_of vs i) (end_of vs i) (end_of vs near.edge))
  near_end = f.end ∙ ap sign_of (made_turn m (end_of vs near.edge))

  module _ (low : i < j) (inside : near.edge < vertices_count vs) where
    near_apart : (k : ℕ) → j ≤ k → k < near.edge → is_offending vs i k ≡ false
    near_apart k h l =
        let next : k + 1 < vertices_count vs = omega arith in
        let first = sym (made_turn m (start_of vs k)) in
        let second = ap (orientation_of (start_of vs i) (end_of vs i)) (next_start vs k (k + 1) refl next)
        ∙ sym (made_turn m (vertex_at vs (k + 1))) in
        beside_passed (limit_of g) vs e (omega arith) (omega (arith, next))
        ((λ t. is_beside (sign_of (first t)) (sign_of (second t))) ∙ f.passed k h l)

    pub near_reached : Row (is_offending vs) (vertices_count vs) i j → Row (is_offending vs) (vertices_count vs) i near.edge
    near_reached = row_pass near.edge f.after (omega arith)
        (λ k h l. near_apart k h (omega (arith, l, f.after)))

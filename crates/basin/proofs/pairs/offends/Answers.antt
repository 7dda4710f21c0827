-- `offends` meets its contract, by whether the edges are neighbours.
use mathlib.Core.Path.{◌≡◌, sym, ◌∙◌, ap}
use mathlib.Core.Bool.{true, false, ◌&&◌}
use mathlib.Core.List.{List}
use Prim.Native.Nat.{ℕ, ◌+◌, ◌<◌}
use native.Mathlib.Omega.{arith}
use borrow.Author.Tests.{eq-eqb, ne_eqb}
use lib.Dec.{eqb}
use lib.IntN.{ℤ}
use mir.Syntax.{w64}
use mir.Val.{SFits, to_z, of_z}
use mir.ValLaws.{to_z-of_z}
use Rattle.integers.specs.Sign.{sign_of}
use Rattle.std.specs.declared.result.Result.TheVariants.{Ok}
use Rattle.sphere.specs.declared.point.Grid.{Grid}
use Rattle.sphere.specs.declared.point.Point.{Point}
use Rattle.polygon.specs.Checks.{polygon_check}
use Rattle.sphere.specs.Point.{fine, limit_of, Within}
use Rattle.sphere.specs.Orientation.{orientation_of}
use Rattle.sphere.proofs.Laws.Orientation.{orientation_cycle}
use Rattle.sphere.proofs.Laws.Plane.{grid→fine}
use Rattle.polygon.specs.Vertices.{vertices_count, start_of, end_of}
use Rattle.polygon.proofs.Laws.Checks.{polygon_passed}
use Rattle.polygon.proofs.Laws.Edges.{ends_within}
use Rattle.basin.specs.Shared.{is_shared, is_shared_beyond}
use Rattle.basin.specs.Pairs.{is_offending}
use Rattle.basin.proofs.pairs.offends.Goals as goal

-- The test, by the four ends.
module _ (vs : List ℤ) (i j : ℕ) {a b c d : Point} (ea : a ≡ start_of vs i) (eb : b ≡ end_of vs i)
    (ec : c ≡ start_of vs j) (ed : d ≡ end_of vs j) where
  after : j ≡ i + 1 → is_shared_beyond a b d ≡ is_offending vs i j
  unfolding is_offending
  after e = (λ t. is_shared_beyond (ea t) (eb t) (ed t)) ∙ sym (rw (eq-eqb j (i + 1) e))

  closing : (j ≡ i + 1 → ⊥) → (eqb i 0 && eqb (j + 1) (vertices_count vs)) ≡ true →
      is_shared_beyond c a b ≡ is_offending vs i j
  unfolding is_offending
  closing n e = (λ t. is_shared_beyond (ec t) (ea t) (eb t)) ∙ sym (rw (ne_eqb j (i + 1) n, e))

  elsewhere : (j ≡ i + 1 → ⊥) → (eqb i 0 && eqb (j + 1) (vertices_count vs)) ≡ false →
      is_shared a b c d ≡ is_offending vs i j
  unfolding is_offending
  elsewhere n e = (λ t. is_shared (ea t) (eb t) (ec t) (ed t)) ∙ sym (rw (ne_eqb j (i + 1) n, e))

-- The edge from vertex i has its ends on the fine grid.
module _ (grid : Grid) (vs : List ℤ) (passed : polygon_check (limit_of grid) vs ≡ Ok tt) {i : ℕ} (h : i < vertices_count vs)
    {a b : Point} (ea : a ≡ start_of vs i) (eb : b ≡ end_of vs i) where
  ends : Within (limit_of grid) a × Within (limit_of grid) b
  ends = ends_within (polygon_passed passed).1 h ea eb

  ends_fine : Within fine a × Within fine b
  ends_fine = (grid→fine grid ends.0, grid→fine grid ends.1)

-- A side, as the local holds it.
held : {s : ℤ} (A B C : Point) {a b c : Point} → SFits w64 s → a ≡ A → b ≡ B → c ≡ C →
    sign_of s ≡ sign_of (orientation_of A B C) → sign_of (to_z w64 (of_z w64 s)) ≡ sign_of (orientation_of a b c)
held {s} A B C fit p q r e =
    ap sign_of (to_z-of_z w64 s fit) ∙ e ∙ sym (λ t. sign_of (orientation_of (p t) (q t) (r t)))

pub shares_beyond-requires : goal.shares_beyond-requires
shares_beyond-requires c =
    let v = c.args in
    let p = c.requires in
    let e = ends_fine v.grid v.vertices.now p.vertices_value {i = v.i} (omega (arith, p.i_lt_j.0, p.i_lt_j.1)) c.vertex_at-a.ensures c.end_of-b.ensures in
    let f = ends_fine v.grid v.vertices.now p.vertices_value p.i_lt_j.1 c.vertex_at-c.ensures c.end_of-d.ensures in
    (e.0, e.1, f.1, held _ _ _ c.ranges.s2 c.vertex_at-a.ensures c.end_of-b.ensures c.end_of-d.ensures p.i_lt_j.2.end)

pub returns-then-j-i : goal.returns-then-j-i
returns-then-j-i c =
    c.shares_beyond.ensures
    ∙ after _ _ _ c.vertex_at-a.ensures c.end_of-b.ensures c.vertex_at-c.ensures c.end_of-d.ensures c.if-j-i.true

pub shares_beyond-requires-then-closes : goal.shares_beyond-requires-then-closes
shares_beyond-requires-then-closes c =
    let v = c.args in
    let p = c.requires in
    let e = ends_fine v.grid v.vertices.now p.vertices_value {i = v.i} (omega (arith, p.i_lt_j.0, p.i_lt_j.1)) c.vertex_at-a.ensures c.end_of-b.ensures in
    let f = ends_fine v.grid v.vertices.now p.vertices_value p.i_lt_j.1 c.vertex_at-c.ensures c.end_of-d.ensures in (
      f.0,
      e.0,
      e.1,
      held _ _ _ c.ranges.s1 c.vertex_at-a.ensures c.end_of-b.ensures c.vertex_at-c.ensures p.i_lt_j.2.start
          ∙ sym (ap sign_of (orientation_cycle c.vertex_at-c.result c.vertex_at-a.result c.end_of-b.result)),
    )

pub returns-then-closes : goal.returns-then-closes
returns-then-closes c =
    c.shares_beyond-then-closes.ensures
    ∙ closing _ _ _ c.vertex_at-a.ensures c.end_of-b.ensures c.vertex_at-c.ensures c.end_of-d.ensures c.if-j-i.false
    (sym c.closes.ensures ∙ c.if-closes.true)

pub shares-requires-clause-within : goal.shares-requires-clause-within
shares-requires-clause-within c =
    let v = c.args in
    let p = c.requires in
    let e = ends v.grid v.vertices.now p.vertices_value {i = v.i} (omega (arith, p.i_lt_j.0, p.i_lt_j.1)) c.vertex_at-a.ensures c.end_of-b.ensures in
    let f = ends v.grid v.vertices.now p.vertices_value p.i_lt_j.1 c.vertex_at-c.ensures c.end_of-d.ensures in
    (e.0, e.1, f.0, f.1)

pub returns : goal.returns
returns c =
    c.shares.ensures
    ∙ elsewhere _ _ _ c.vertex_at-a.ensures c.end_of-b.ensures c.vertex_at-c.ensures c.end_of-d.ensures c.if-j-i.false
    (sym c.closes.ensures ∙ c.if-closes.false)

-- `test_listed` meets its contract.
use mathlib.Core.Path.{◌≡◌, sym, ◌∙◌, ap}
use mathlib.Core.List.{List}
use Prim.Native.Nat.{ℕ, ◌^◌, ◌<◌}
use lib.IntN.{ℤ}
use lib.Signed.{mag}
use mir.Syntax.{w32, w64}
use mir.Val.{hbits, to_z, of_z}
use Rattle.integers.specs.Sign.{sign_of}
use Rattle.integers.proofs.Compare.{result_same, result_sign}
use Rattle.sphere.specs.declared.plane.Plane.{Plane}
use Rattle.sphere.specs.declared.point.Point.{Point}
use Rattle.sphere.specs.Point.{limit_of, Within}
use Rattle.sphere.specs.Orientation.{orientation_of, dot_of}
use Rattle.sphere.specs.Plane.{plane_of}
use Rattle.sphere.proofs.Laws.Plane.{Made, plane_made, made_within, made_turn}
use Rattle.polygon.specs.Vertices.{vertices_count, start_of, end_of}
use Rattle.polygon.proofs.Laws.Edges.{ends_within}
use Rattle.search.specs.declared.arc.Arc.{Arc}
use Rattle.search.specs.declared.walk.EdgeTest.TheVariants.{Way}
use Rattle.search.specs.Arc.{AcceptedArc}
use Rattle.search.proofs.Laws.Arc.{arc_side, reference}
use Rattle.search.proofs.Laws.EdgeTest.{one_sided_test, way_by_lem}
use Rattle.cones.proofs.walk.test_listed.Goals as goal

-- The edge's two ends, within the grid; and its own plane.
module _ (vs : List ℤ) (arc : Arc) (i : ℕ) {a b : Point} (p : AcceptedArc vs arc) (h : i < vertices_count vs)
    (start : a ≡ start_of vs i) (end : b ≡ end_of vs i) where
  ends : Within (limit_of arc.plane.grid) a × Within (limit_of arc.plane.grid) b
  ends = ends_within (reference p).accepted.gridded h start end

  made : {edge : Plane} → edge ≡ plane_of arc.plane.grid a b → Made arc.plane.grid a b edge
  made e = plane_made arc.plane.grid _ _ ends.0 ends.1 e

-- On which side of the arc a vertex q lies, as the local holds it.
side_at : (vs : List ℤ) (arc : Arc) (q : Point) {a : Point} (z : ℤ) → AcceptedArc vs arc → a ≡ q → mag z < 2 ^ hbits w64 →
    sign_of z ≡ sign_of (dot_of arc.plane.normal a) →
    sign_of (to_z w64 (of_z w64 z)) ≡ sign_of (orientation_of arc.from arc.to q)
side_at vs arc q z p e small s =
    result_sign w64 z small (s ∙ ap sign_of (arc_side p.sound _) ∙ ap (λ v. sign_of (orientation_of arc.from arc.to v)) e)

pub side_of-s1-requires : goal.side_of-s1-requires
side_of-s1-requires c =
    let a = c.args in
    let p = c.requires.accepted_arc in
    (p.0.sound.sound, (ends a.vertices.now a.arc a.i p.0 p.1 c.vertex_at-a.ensures c.end_of-b.ensures).0)

pub side_of-s2-requires : goal.side_of-s2-requires
side_of-s2-requires c =
    let a = c.args in
    let p = c.requires.accepted_arc in
    (p.0.sound.sound, (ends a.vertices.now a.arc a.i p.0 p.1 c.vertex_at-a.ensures c.end_of-b.ensures).1)

pub plane_through-edge-requires : goal.plane_through-edge-requires
plane_through-edge-requires c =
    let a = c.args in
    let p = c.requires.accepted_arc in
    ends a.vertices.now a.arc a.i p.0 p.1 c.vertex_at-a.ensures c.end_of-b.ensures

pub side_of-side-requires : goal.side_of-side-requires
side_of-side-requires c =
    let a = c.args in
    let p = c.requires.accepted_arc in
    let m = made a.vertices.now a.arc a.i p.0 p.1 c.vertex_at-a.ensures c.end_of-b.ensures c.plane_through-edge.ensures in
    (m.sound, made_within m p.0.sound.query)

pub crossing_from-requires : goal.crossing_from-requires
crossing_from-requires c =
    let a = c.args in
    let p = c.requires.accepted_arc in
    let m = made a.vertices.now a.arc a.i p.0 p.1 c.vertex_at-a.ensures c.end_of-b.ensures c.plane_through-edge.ensures in
    (m.sound, made_within m p.0.sound.known)

pub returns-then-is_beside : goal.returns-then-is_beside
returns-then-is_beside c =
    let v = c.args in
    let p = c.requires.accepted_arc in
    let a = side_at v.vertices.now v.arc _ c.side_of-s1.result p.0 c.vertex_at-a.ensures c.side_of-s1.type_inv c.side_of-s1.ensures in
    let b = side_at v.vertices.now v.arc _ c.side_of-s2.result p.0 c.end_of-b.ensures c.side_of-s2.type_inv c.side_of-s2.ensures in
    let e = sym c.is_beside.ensures ∙ c.if-is_beside.true in
    sym (one_sided_test v.vertices.now v.arc.from v.arc.to v.i (reference p.0).off_circle p.1 (rw (a, b) at e))

-- On which side of the edge the query lies.
pub is_on_border-requires-clause-side_value : goal.is_on_border-requires-clause-side_value
is_on_border-requires-clause-side_value c =
    let a = c.args in
    let p = c.requires.accepted_arc in
    let m = made a.vertices.now a.arc a.i p.0 p.1 c.vertex_at-a.ensures c.end_of-b.ensures c.plane_through-edge.ensures in
    result_sign w64 c.side_of-side.result c.side_of-side.type_inv (c.side_of-side.ensures ∙ ap sign_of (made_turn m a.arc.to))
    ∙ (λ j. sign_of (orientation_of (c.vertex_at-a.ensures j) (c.end_of-b.ensures j) a.arc.to))

pub returns : goal.returns
returns c =
    let v = c.args in
    let p = c.requires.accepted_arc in
    let m = made v.vertices.now v.arc v.i p.0 p.1 c.vertex_at-a.ensures c.end_of-b.ensures c.plane_through-edge.ensures in
    let a = side_at v.vertices.now v.arc _ c.side_of-s1.result p.0 c.vertex_at-a.ensures c.side_of-s1.type_inv c.side_of-s1.ensures in
    let b = side_at v.vertices.now v.arc _ c.side_of-s2.result p.0 c.end_of-b.ensures c.side_of-s2.type_inv c.side_of-s2.ensures in
    let query = result_sign w64 c.side_of-side.result c.side_of-side.type_inv (c.side_of-side.ensures ∙ ap sign_of (made_turn m v.arc.to)) in
    let r = c.crossing_from in
    let s1 = to_z w64 (of_z w64 c.side_of-s1.result) in
    let s2 = to_z w64 (of_z w64 c.side_of-s2.result) in
    let s3 = dot_of c.plane_through-edge.result.normal v.arc.from in
    let s4 = to_z w64 (of_z w64 c.side_of-side.result) in
    let way = way_by_lem v.arc.from v.arc.to s1 s2 s3 s4 (result_same w32 r.result r.type_inv r.ensures)
    (ap sign_of (made_turn m _)) a b query c.vertex_at-a.ensures c.end_of-b.ensures in
    rw (sym c.is_on_border.ensures ∙ c.if-is_on_border.false) (ap Way way)

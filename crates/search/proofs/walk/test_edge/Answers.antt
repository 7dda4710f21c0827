-- `test_edge` meets its contract.
use mathlib.Core.Path.{◌≡◌, sym, ◌∙◌, ap}
use native.Mathlib.Omega.{arith}
use lib.IntN.{ℤ}
use mir.Syntax.{w32, w64}
use mir.Val.{to_z, of_z}
use Rattle.integers.specs.Sign.{sign_of}
use Rattle.integers.proofs.Compare.{result_same, result_sign}
use Rattle.sphere.specs.Point.{limit_of, Within}
use Rattle.sphere.specs.Orientation.{orientation_of, dot_of}
use Rattle.sphere.proofs.Laws.Plane.{Made, plane_made, made_within, made_turn}
use Rattle.polygon.specs.Vertices.{start_of, end_of}
use Rattle.polygon.proofs.Laws.Edges.{start_within, end_within}
use Rattle.search.specs.declared.walk.EdgeTest.TheVariants.{Way}
use Rattle.search.proofs.Laws.Arc.{reference}
use Rattle.search.proofs.Laws.EdgeTest.{one_sided_by, way_by_lem}
use Rattle.search.proofs.walk.test_edge.Goals as goal
use Rattle.search.proofs.walk.test_edge.Lts as lts
use Rattle.search.proofs.walk.test_edge.Reads as reads
use Rattle.search.proofs.walk.test_edge.Tie as tie

abbrev Start : Type 0
Start = lts.Start tie.the-claims reads.Pre reads.Post tie.handed_clauses

abbrev After-is_beside : Type 0
After-is_beside = lts.After-is_beside tie.the-claims reads.Pre reads.Post tie.handed_clauses

abbrev After-end_of : Type 0
After-end_of = lts.After-end_of tie.the-claims reads.Pre reads.Post tie.handed_clauses

abbrev After-plane_through-edge : Type 0
After-plane_through-edge = lts.After-plane_through tie.the-claims reads.Pre reads.Post tie.handed_clauses

abbrev After-side_of-side : Type 0
After-side_of-side = lts.After-side_of tie.the-claims reads.Pre reads.Post tie.handed_clauses

-- The sides of the two ends, as the locals hold them.
module _ (c : After-is_beside) where
  abbrev s : Start
  s = c.before.before.before

  side_a : sign_of (to_z w64 (of_z w64 s.args.near.start))
      ≡ sign_of (orientation_of s.args.arc.from s.args.arc.to (start_of s.args.vertices.now
      s.args.near.edge))
  side_a = result_sign w64 s.args.near.start c.struct_told-1.given.1.0.1 s.requires.1.start

  side_b : sign_of (to_z w64 (of_z w64 s.args.near.end))
      ≡ sign_of (orientation_of s.args.arc.from s.args.arc.to (end_of s.args.vertices.now
      s.args.near.edge))
  side_b = result_sign w64 s.args.near.end c.struct_told-2-1.given.1.1.0.1 s.requires.1.end

pub returns-then-is_beside : goal.returns-then-is_beside
returns-then-is_beside c =
    let v = (s c.before).args in
    let e = sym c.is_beside.ensures ∙ c.if-is_beside.true in
    sym (one_sided_by v.vertices.now v.arc.from v.arc.to v.near.edge
    (reference (s c.before).requires.0).off_circle (s c.before).requires.1.below (rw (side_a c.before, side_b c.before) at e)
    v.stop)

pub vertex_at-requires : goal.vertex_at-requires
vertex_at-requires c = omega (arith, (s c.before.before.before).requires.1.below)

pub end_of-requires : goal.end_of-requires
end_of-requires c = (s c.before.before.before.before).requires.1.below

-- The two ends, within the grid.
module _ (c : After-end_of) where
  abbrev test : After-is_beside
  test = c.before.before.before.before

  abbrev entry : Start
  entry = s test

  A : Within (limit_of entry.args.arc.plane.grid) c.vertex_at.result
  A =
      start_within (reference entry.requires.0).accepted.gridded entry.requires.1.below
      (record { start = λ h. c.vertex_at.ensures })

  B : Within (limit_of entry.args.arc.plane.grid) c.end_of.result
  B = end_within (reference entry.requires.0).accepted.gridded entry.requires.1.below c.end_of.ensures

pub plane_through-edge-requires : goal.plane_through-edge-requires
plane_through-edge-requires c = (A c.before, B c.before)

-- The edge's own plane.
made : (c : After-plane_through-edge) →
    Made (entry c.before).args.arc.plane.grid c.vertex_at.result c.end_of.result c.plane_through-edge.result
made c = plane_made (entry c.before).args.arc.plane.grid _ _ (A c.before) (B c.before) c.plane_through-edge.ensures

pub side_of-side-requires : goal.side_of-side-requires
side_of-side-requires c =
    ((made c.before.before).sound, made_within (made c.before.before) (entry c.before.before.before).requires.0.sound.query)

-- On which side of it the query lies.
module _ (c : After-side_of-side) where
  abbrev ends : After-end_of
  ends = c.before.before.before

  abbrev side : ℤ
  side = to_z w64 (of_z w64 c.side_of-side.result)

  side_of_query : sign_of side
      ≡ sign_of (orientation_of ends.vertex_at.result ends.end_of.result (entry ends).args.arc.to)
  side_of_query =
      result_sign w64 c.side_of-side.result c.side_of-side.type_inv
      (c.side_of-side.ensures ∙ ap sign_of (made_turn (made c.before.before) (entry ends).args.arc.to))

pub stops_at-requires : goal.stops_at-requires
stops_at-requires c =
    let e = ends c.before in
    let s = entry e in record {
      accepted_arc = (s.requires.0, s.requires.1.below);
      side_value = side_of_query c.before ∙ (λ j. sign_of (orientation_of (e.vertex_at.ensures j) (e.end_of.ensures j)
          s.args.arc.to));
    }

pub returns-then-stops_at : goal.returns-then-stops_at
returns-then-stops_at c = rw (sym c.stops_at.ensures ∙ c.if-stops_at.true)

pub crossing_from-requires : goal.crossing_from-requires
crossing_from-requires c =
    ((made c.before.before.before.before.before.before.before.before).sound, made_within (made c.before.before.before.before.before.before.before.before) (entry c.before.before.before.before.before.before.before.before.before).requires.0.sound.known)

pub returns : goal.returns
returns c =
    let e = ends c.before.before.before.before.before.before in
    let v = (entry e).args in
    let r = c.crossing_from in
    let s1 = to_z w64 (of_z w64 v.near.start) in
    let s2 = to_z w64 (of_z w64 v.near.end) in
    let s3 = dot_of c.plane_through-edge.result.normal v.arc.from in
    let way = way_by_lem v.arc.from v.arc.to s1 s2 s3 (side c.before.before.before.before.before.before) (result_same w32 r.result r.type_inv r.ensures)
    (ap sign_of (made_turn (made c.before.before.before.before.before.before.before.before) _)) (side_a (test e)) (side_b (test e)) (side_of_query c.before.before.before.before.before.before)
    e.vertex_at.ensures e.end_of.ensures in
    rw (sym c.stops_at.ensures ∙ c.if-stops_at.false) (ap Way way)

-- `first_pair` meets its contract: nothing was found in the rows before i, nor in row i before j, whose side is at hand.
use mathlib.Core.Path.{◌≡◌, refl, sym, ◌∙◌, ap}
use Prim.Native.Nat.{ℕ, ◌+◌, ◌<◌}
use native.Mathlib.Omega.{arith}
use mathlib.Core.List.{List}
use lib.IntN.{ℤ}
use mir.Syntax.{w64}
use Rattle.std.specs.declared.result.Result.TheVariants.{Ok}
use Rattle.integers.specs.Sign.{sign_of}
use Rattle.integers.proofs.Compare.{result_sign}
use Rattle.sphere.specs.declared.plane.Plane.{Plane}
use Rattle.sphere.specs.declared.point.Grid.{Grid}
use Rattle.sphere.specs.declared.point.Point.{Point}
use Rattle.sphere.specs.Point.{limit_of}
use Rattle.sphere.specs.Orientation.{dot_of}
use Rattle.sphere.specs.Plane.{plane_of}
use Rattle.sphere.proofs.Laws.Plane.{Made, made_within, made_turn}
use Rattle.polygon.specs.Checks.{polygon_check}
use Rattle.polygon.specs.Vertices.{vertices_count, vertex_at, start_of, end_of}
use Rattle.polygon.proofs.Laws.Checks.{polygon_passed}
use Rattle.polygon.proofs.Laws.Edges.{next_start}
use Rattle.basin.specs.Pairs.{first_pair_of}
use Rattle.basin.proofs.Laws.Near.{row_made, row_first, near_start, near_end, near_reached}
use Rattle.basin.proofs.Laws.Paired.{paired_end, row_start, row_step, row_hit, row_end}
use Rattle.basin.proofs.pairs.first_pair.Invariants.{turn_of}
use Rattle.basin.proofs.pairs.first_pair.Goals as goal

-- The plane of row i.
row : (grid : Grid) (vs : List ℤ) (i : ℕ) → polygon_check (limit_of grid) vs ≡ Ok tt → i + 1 < vertices_count vs →
    {a b : Point} {p : Plane} → a ≡ vertex_at vs i → b ≡ vertex_at vs (i + 1) → p ≡ plane_of grid a b →
    Made grid (start_of vs i) (end_of vs i) p
row grid vs i passed low a b p = row_made grid vs (polygon_passed passed).1 i low a b p

pub overflow_sub-last : goal.overflow_sub-last
overflow_sub-last c = omega (arith, (polygon_passed c.requires).0.least)

pub plane_through-plane-requires : goal.plane_through-plane-requires
plane_through-plane-requires c =
    let g = (polygon_passed c.requires).1 in
    let i = c.loop-i-test.true in
    let n = (polygon_passed c.requires).0.least in
    (rw c.vertex_at.ensures (g.each c.loop-i.i (omega arith)), rw c.vertex_at-in-loop-i.ensures (g.each (c.loop-i.i + 1) (omega arith)))

pub side_of-closing-requires : goal.side_of-closing-requires
side_of-closing-requires c =
    let n = (polygon_passed c.requires).0.least in
    let low = c.loop-i-test.true in
    let m = row c.args.grid c.args.vertices.now c.loop-i.i c.requires (omega arith) c.vertex_at.ensures c.vertex_at-in-loop-i.ensures
    c.plane_through-plane.ensures in
    (m.sound, made_within m (rw c.vertex_at-in-loop-i-2.ensures ((polygon_passed c.requires).1.each 0 (omega arith))))

pub loop-j-init : goal.loop-j-init
loop-j-init c =
    let n = (polygon_passed c.requires).0.least in
    let low = c.loop-i-test.true in
    (omega arith, omega arith, row_start _ _ _, λ h. row_first c.args.vertices.now c.loop-i.i (omega arith))

pub next_near-near-requires-clause-gridded : goal.next_near-near-requires-clause-gridded
next_near-near-requires-clause-gridded c =
    let l = (polygon_passed c.requires).0 in
    let low : c.loop-i.i + 1 < vertices_count c.args.vertices.now = omega (arith, c.loop-i-test.true, l.least) in
    let m = row c.args.grid c.args.vertices.now c.loop-i.i c.requires low c.vertex_at.ensures c.vertex_at-in-loop-i.ensures
    c.plane_through-plane.ensures in
    (record { each = λ k h. made_within m ((polygon_passed c.requires).1.each k h) }, m.sound, l.most)

pub next_near-near-requires-clause-side_value : goal.next_near-near-requires-clause-side_value
next_near-near-requires-clause-side_value c =
    let vs = c.args.vertices.now in
    let low : c.loop-i.i + 1 < vertices_count vs = omega (arith, c.loop-i-test.true, (polygon_passed c.requires).0.least) in
    let m = row c.args.grid vs c.loop-i.i c.requires low c.vertex_at.ensures c.vertex_at-in-loop-i.ensures
    c.plane_through-plane.ensures in
    let d = c.side_of-closing in (
      c.loop-j.invariant.3 c.loop-j-test.true ∙ ap sign_of (sym (made_turn m (start_of vs c.loop-j.j))),
      result_sign w64 d.result d.type_inv (d.ensures
          ∙ ap (λ p. sign_of (dot_of c.plane_through-plane.result.normal p)) c.vertex_at-in-loop-i-2.ensures),
    )

-- The edge where the scan stopped: those before it are passed over.
pub offends-requires-clause-i_lt_j : goal.offends-requires-clause-i_lt_j
offends-requires-clause-i_lt_j c =
    let vs = c.args.vertices.now in
    let l = (polygon_passed c.requires).0 in
    let low : c.loop-i.i + 1 < vertices_count vs = omega (arith, c.loop-i-test.true, l.least) in
    let m = row c.args.grid vs c.loop-i.i c.requires low c.vertex_at.ensures c.vertex_at-in-loop-i.ensures
    c.plane_through-plane.ensures in
    let near = c.next_near-near in (
      omega (arith, c.loop-j.invariant.0, near.ensures.after),
      omega (arith, near.ensures.before, l.least),
      record {
        start = result_sign w64 near.result.start (omega arith)
            (near_start c.args.grid vs c.requires c.loop-i.i m near.ensures);
        end = result_sign w64 near.result.end (omega arith)
            (near_end c.args.grid vs c.requires c.loop-i.i m near.ensures);
      },
    )

pub returns-then-offends : goal.returns-then-offends
unfolding first_pair_of
returns-then-offends c =
    let vs = c.args.vertices.now in
    let l = (polygon_passed c.requires).0 in
    let low : c.loop-i.i + 1 < vertices_count vs = omega (arith, c.loop-i-test.true, l.least) in
    let m = row c.args.grid vs c.loop-i.i c.requires low c.vertex_at.ensures c.vertex_at-in-loop-i.ensures
    c.plane_through-plane.ensures in
    let near = c.next_near-near in
    let inside : near.result.edge < vertices_count vs = omega (arith, near.ensures.before, l.least) in
    let reached = near_reached c.args.grid vs c.requires c.loop-i.i m near.ensures c.loop-j.invariant.0 inside c.loop-j.invariant.2 in
    sym (row_hit (omega arith) inside (sym c.offends.ensures ∙ c.if-offends.true) reached c.loop-i.invariant.1)

pub loop-j-preserved : goal.loop-j-preserved
loop-j-preserved c =
    let vs = c.args.vertices.now in
    let l = (polygon_passed c.requires).0 in
    let low : c.loop-i.i + 1 < vertices_count vs = omega (arith, c.loop-i-test.true, l.least) in
    let m = row c.args.grid vs c.loop-i.i c.requires low c.vertex_at.ensures c.vertex_at-in-loop-i.ensures
    c.plane_through-plane.ensures in
    let near = c.next_near-near in
    let edge = near.result.edge in
    let inside : near.result.edge < vertices_count vs = omega (arith, near.ensures.before, l.least) in
    let reached = near_reached c.args.grid vs c.requires c.loop-i.i m near.ensures c.loop-j.invariant.0 inside c.loop-j.invariant.2 in (
      omega (arith, c.loop-j.invariant.0, near.ensures.after),
      omega (arith, near.ensures.before),
      row_step inside (sym c.offends.ensures ∙ c.if-offends.false) reached,
      λ h. result_sign w64 near.result.end (omega arith)
          (near_end c.args.grid vs c.requires c.loop-i.i m near.ensures)
          ∙ ap (λ p. sign_of (turn_of vs c.loop-i.i p)) (next_start vs edge (edge + 1) refl (omega (arith, h, l.least))),
    )

pub loop-i-preserved : goal.loop-i-preserved
loop-i-preserved c =
    let l = (polygon_passed c.requires).0.least in (
      omega (arith, c.loop-i-test.true),
      row_end (omega (arith, c.loop-i-test.true, l)) (omega (arith, c.loop-j-test.false, l)) c.loop-j.invariant.2 c.loop-i.invariant.1,
    )

pub returns-after-loop-i : goal.returns-after-loop-i
unfolding first_pair_of
returns-after-loop-i c =
    sym (paired_end (omega (arith, c.loop-i-test.false, c.loop-i.invariant.0, (polygon_passed c.requires).0.least))
    c.loop-i.invariant.1)

-- `off_pairs` meets its contract: no edge before i holds the point, and `from` is vertex i.
use mathlib.Core.Path.{◌≡◌, sym, ap, ◌∙◌}
use mathlib.Core.Bool.{Bool, false}
use mathlib.Core.List.{List}
use Prim.Native.Nat.{ℕ, ◌+◌, ◌<◌}
use native.Mathlib.Omega.{arith}
use lib.IntN.{ℤ}
use Rattle.sphere.specs.declared.point.Point.{Point}
use Rattle.sphere.specs.Point.{Within}
use Rattle.sphere.proofs.Laws.Plane.{Made, plane_made, made_within}
use Rattle.answer.proofs.Laws.Search.{Searched, searched_start, searched_step}
use Rattle.polygon.specs.Vertices.{vertices_count, vertex_at}
use Rattle.polygon.specs.Lines.{is_on_circle}
use Rattle.polygon.specs.Accepted.{Gridded}
use Rattle.polygon.proofs.Laws.Quick.{into_middle, from_middle, circle_held, circle_end}
use Rattle.polygon.proofs.quick.off_pairs.Goals as goal
use Rattle.polygon.proofs.quick.off_pairs.Goals.{After-plane_through-plane}
use Rattle.polygon.proofs.quick.off_pairs.Lts as lts
use Rattle.polygon.proofs.quick.off_pairs.Reads as reads
use Rattle.polygon.proofs.quick.off_pairs.Tie as tie

abbrev After-is_level : Type 0
After-is_level = lts.After-is_level tie.the-claims reads.Pre reads.Post goal.the-invariant-loop-i goal.the-decreases-loop-i tie.handed_clauses

abbrev After-is_level-in-loop-i : Type 0
After-is_level-in-loop-i = lts.After-is_level2 tie.the-claims reads.Pre reads.Post goal.the-invariant-loop-i goal.the-decreases-loop-i tie.handed_clauses

at_vertex : {limit : ℕ} {vs : List ℤ} {p : Point} {i : ℕ} → Gridded limit vs → i < vertices_count vs →
    p ≡ vertex_at vs i → Within limit p
at_vertex {i = i} g h e = rw e (g.each i h)

-- The plane of a turn.
made : (c : After-plane_through-plane) →
    let v = c.before in
    let s = v.before.before.before.before in
    Made s.args.grid v.vertex_at-middle.result s.args.point c.plane_through-plane.result
made c =
    let v = c.before in
    let t = v.before in
    let s = t.before.before.before in
    plane_made s.args.grid v.vertex_at-middle.result s.args.point
    (at_vertex s.requires.listed.1 (omega (arith, t.loop-i-test.true)) v.vertex_at-middle.ensures) s.requires.listed.2
    c.plane_through-plane.ensures

-- What the tests of a turn say: of edge i, and of edge i + 1.
first : (c : After-is_level) {t : Bool} → c.is_level.result ≡ t →
    let l = c.before.before.before.before in
    let s = l.before.before in
    is_on_circle s.args.vertices.now s.args.point l.loop-i.i ≡ t
first c e =
    let v = c.before.before in
    let t = v.before in
    let l = t.before in
    let s = l.before.before in
    into_middle s.args.vertices.now s.args.point l.loop-i.i (made c.before)
    (omega (arith, t.loop-i-test.true)) l.loop-i.invariant.at v.vertex_at-middle.ensures c.is_level.ensures e

after_first : (c : After-is_level) → c.is_level.result ≡ false →
    let l = c.before.before.before.before in
    let s = l.before.before in
    Searched (is_on_circle s.args.vertices.now s.args.point) (vertices_count s.args.vertices.now)
    (l.loop-i.i + 1)
after_first c e =
    let l = c.before.before.before.before in
    searched_step l.loop-i.invariant.below (first c e) l.loop-i.invariant.past

second : (c : After-is_level-in-loop-i) {t : Bool} → c.is_level-in-loop-i.result ≡ t →
    let l = c.before.before.before.before.before.before.before in
    let s = l.before.before in
    is_on_circle s.args.vertices.now s.args.point (l.loop-i.i + 1) ≡ t
second c e =
    let m = c.before.before.before.before in
    let v = m.before in
    let t = v.before in
    let l = t.before in
    let s = l.before.before in
    let vs = s.args.vertices.now in
    let two : l.loop-i.i + 2 ≡ l.loop-i.i + 1 + 1 = omega arith in
    from_middle vs s.args.point (l.loop-i.i + 1) (made m) (omega (arith, t.loop-i-test.true))
    v.vertex_at-middle.ensures (c.before.vertex_at-to.ensures ∙ ap (vertex_at vs) two) c.is_level-in-loop-i.ensures e

pub vertex_at-from-requires : goal.vertex_at-from-requires
vertex_at-from-requires c = omega (arith, c.requires.listed.0.least)

pub loop-i-init : goal.loop-i-init
loop-i-init c = record {
  below = omega (arith, c.before.requires.listed.0.least);
  at = c.vertex_at-from.ensures;
  past = searched_start _ _;
}

pub overflow_add-i : goal.overflow_add-i
overflow_add-i c = omega (arith, c.loop-i.invariant.below)

pub overflow_add-i-in-loop-i : goal.overflow_add-i-in-loop-i
overflow_add-i-in-loop-i c = omega (arith, c.loop-i-test.true)

pub vertex_at-middle-requires : goal.vertex_at-middle-requires
vertex_at-middle-requires c = omega (arith, c.loop-i-test.true)

pub plane_through-plane-requires : goal.plane_through-plane-requires
plane_through-plane-requires c =
    let t = c.before in
    let s = t.before.before.before in
    (at_vertex s.requires.listed.1 (omega (arith, t.loop-i-test.true)) c.vertex_at-middle.ensures, s.requires.listed.2)

pub is_level-requires : goal.is_level-requires
is_level-requires c =
    let l = c.before.before.before in
    let inv = l.loop-i.invariant in
    let m = made c in
    (m.sound, made_within m (at_vertex l.before.before.requires.listed.1 inv.below inv.at))

pub returns-then-is_level : goal.returns-then-is_level
returns-then-is_level c =
    let q = c.before in
    let l = q.before.before.before.before in
    let s = l.before.before in
    sym (circle_held s.args.vertices.now s.args.point l.loop-i.invariant.below (first q c.if-is_level.true))

pub overflow_add-i-in-loop-i-2 : goal.overflow_add-i-in-loop-i-2
overflow_add-i-in-loop-i-2 c = omega (arith, c.before.before.before.before.loop-i-test.true)

pub vertex_at-to-requires : goal.vertex_at-to-requires
vertex_at-to-requires c = omega (arith, c.before.before.before.before.loop-i-test.true)

pub is_level-requires-in-loop-i : goal.is_level-requires-in-loop-i
is_level-requires-in-loop-i c =
    let p = c.before.before.before in
    let t = p.before.before in
    let s = t.before.before.before in
    let m = made p in (
      m.sound,
      made_within m (at_vertex s.requires.listed.1 (omega (arith, t.loop-i-test.true)) c.vertex_at-to.ensures),
    )

pub returns-then-is_level-2 : goal.returns-then-is_level-2
returns-then-is_level-2 c =
    let q = c.before in
    let t = q.before.before.before.before.before.before in
    let s = t.before.before.before in
    sym
    (circle_held s.args.vertices.now s.args.point (omega (arith, t.loop-i-test.true))
    (second q c.if-is_level-2.true))

pub overflow_add-i-in-loop-i-3 : goal.overflow_add-i-in-loop-i-3
overflow_add-i-in-loop-i-3 c = omega (arith, c.before.before.before.before.before.before.before.loop-i-test.true)

pub loop-i-smaller : goal.loop-i-smaller
loop-i-smaller c = omega (arith, c.before.before.before.before.before.before.before.loop-i-test.true)

pub loop-i-preserved : goal.loop-i-preserved
loop-i-preserved c =
    let q = c.before in
    let f = q.before.before in
    let t = f.before.before.before.before in
    let two : t.before.loop-i.i + 1 + 1 ≡ t.before.loop-i.i + 2 = omega arith in
    record {
      below = t.loop-i-test.true;
      at = q.before.vertex_at-to.ensures;
      past = rw two at
          (searched_step (omega (arith, t.loop-i-test.true)) (second q c.if-is_level-2.false)
          (after_first f.before f.if-is_level.false));
    }

pub returns : goal.returns
returns c =
    let l = c.before in
    let s = l.before.before in
    sym
    (circle_end s.args.vertices.now s.args.point l.loop-i.invariant.below (omega (arith, c.loop-i-test.false))
    s.requires.vertices_value.0 s.requires.vertices_value.1 l.loop-i.invariant.past)

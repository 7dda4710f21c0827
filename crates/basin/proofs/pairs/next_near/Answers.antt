-- `next_near` meets its contract: the edges from j on, before the one at hand, are passed.
use mathlib.Core.Path.{◌≡◌, refl, sym, ◌∙◌, ap}
use mathlib.Core.Bool.{Bool, true}
use mathlib.Core.List.{List}
use mathlib.Core.Logic.{⊎_elim}
use Prim.Native.Nat.{ℕ, ◌+◌, ◌^◌, ◌≤◌, ◌<◌}
use native.Mathlib.Omega.{arith}
use native.Mathlib.Nat.{eq-or-lt_of_le}
use lib.IntN.{ℤ}
use lib.Signed.{mag}
use mir.Syntax.{w64}
use mir.Val.{hbits, to_z, of_z}
use mir.ValLaws.{to_z-of_z}
use Rattle.integers.specs.Sign.{sign_of}
use Rattle.integers.proofs.Compare.{result_sign}
use Rattle.sphere.specs.declared.point.Point.{Point}
use Rattle.sphere.specs.Orientation.{dot_of}
use Rattle.sphere.specs.Crossing.{is_beside}
use Rattle.polygon.specs.Vertices.{vertices_count, vertex_at}
use Rattle.polygon.proofs.Laws.Count.{next_last}
use Rattle.polygon.proofs.Laws.Edges.{next_start}
use Rattle.basin.specs.Pairs.{side_of, is_passed}
use Rattle.basin.proofs.pairs.next_near.Goals as goal

-- The side of the vertex after the one at hand, as the local holds it.
second : (vs : List ℤ) (N : Point) (edge : ℕ) {p : Point} (z : ℤ) → p ≡ vertex_at vs (edge + 1) → mag z < 2 ^ hbits w64 →
    sign_of z ≡ sign_of (dot_of N p) → sign_of (to_z w64 (of_z w64 z)) ≡ sign_of (side_of vs N (edge + 1))
second vs N edge z e small s = result_sign w64 z small (s ∙ ap (λ p. sign_of (dot_of N p)) e)

-- What the test says of the edge at hand.
says : (vs : List ℤ) (N : Point) (edge : ℕ) (s t : ℤ) {b c : Bool} → sign_of s ≡ sign_of (side_of vs N edge) →
    sign_of t ≡ sign_of (side_of vs N (edge + 1)) → b ≡ is_beside (sign_of s) (sign_of t) → b ≡ c → is_passed vs N edge ≡ c
says vs N edge s t e f g h = sym (g ∙ λ t. is_beside (e t) (f t)) ∙ h

pub loop-edge-init : goal.loop-edge-init
loop-edge-init c = record {
  after = omega arith;
  before = c.requires.j_le_last.0;
  passed = λ k h l. absurd (none k h l);
  known = ap sign_of (to_z-of_z w64 c.args.side c.ranges.side) ∙ c.requires.side_value.0;
}
  where
    none : {j : ℕ} (k : ℕ) → j ≤ k → k < j → ⊥
    none k h l = omega arith

pub returns-then-not-is_beside : goal.returns-then-not-is_beside
returns-then-not-is_beside c =
    let inv = c.loop-edge.invariant in
    let vs = c.args.vertices.now in
    let N = c.args.plane.normal in
    let edge = c.loop-edge.edge in
    let end = second vs N edge c.side_of-end.result c.vertex_at.ensures c.side_of-end.type_inv c.side_of-end.ensures in
    let more : edge + 1 < vertices_count vs = omega (arith, c.loop-edge-test.true, c.requires.j_le_last.1) in
    record {
      after = inv.after;
      before = inv.before;
      passed = inv.passed;
      stops = λ h. says vs N edge _ _ inv.known end c.is_beside.ensures c.if-not-is_beside.true;
      start = inv.known;
      end = end ∙ ap (λ p. sign_of (dot_of N p)) (sym (next_start vs edge (edge + 1) refl more));
    }

pub loop-edge-preserved : goal.loop-edge-preserved
loop-edge-preserved c =
    let inv = c.loop-edge.invariant in
    let vs = c.args.vertices.now in
    let N = c.args.plane.normal in
    let edge = c.loop-edge.edge in
    let end = second vs N edge c.side_of-end.result c.vertex_at.ensures c.side_of-end.type_inv c.side_of-end.ensures in
    record {
      after = omega (arith, inv.after);
      before = omega (arith, c.loop-edge-test.true);
      passed = λ k h m. one_more vs N (says vs N edge _ _ inv.known end c.is_beside.ensures c.if-not-is_beside.false) inv.passed k h m;
      known = end;
    }
  where
    one_more : (vs : List ℤ) (N : Point) {j edge : ℕ} → is_passed vs N edge ≡ true →
        ((k : ℕ) → j ≤ k → k < edge → is_passed vs N k ≡ true) → (k : ℕ) → j ≤ k → k < edge + 1 → is_passed vs N k ≡ true
    one_more vs N {j} {edge} e before k h m =
        let here : k ≤ edge = omega arith in ⊎_elim (λ q. rw q e) (λ l. before k h l) (eq-or-lt_of_le here)

pub returns : goal.returns
returns c =
    let inv = c.loop-edge.invariant in
    let vs = c.args.vertices.now in
    let all : c.loop-edge.edge ≡ c.args.last = omega (arith, c.loop-edge-test.false, inv.before) in
    let e : c.args.last + 1 ≡ vertices_count vs = c.requires.j_le_last.1 in
    record {
      after = c.requires.j_le_last.0;
      before = omega arith;
      passed = λ k h l. inv.passed k h (omega (arith, l, all));
      stops = λ h. absurd (omega (arith, h));
      start = inv.known ∙ ap (λ k. sign_of (side_of vs c.args.plane.normal k)) all;
      end = ap sign_of (to_z-of_z w64 c.args.closing c.ranges.closing) ∙ c.requires.side_value.1
          ∙ ap (λ k. sign_of (side_of vs c.args.plane.normal k)) (sym (next_last (vertices_count vs) _ e));
    }

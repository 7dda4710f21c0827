-- `is_border` meets its contract: what was counted of the edges that the entries before e cover, and entry e, are
-- counted of those that the entries before e + 1 cover. One that is coincident with edge i and before it settles it.
use mathlib.Core.Path.{◌≡◌, sym, ◌∙◌, ap, subst}
use mathlib.Core.Bool.{Bool, true, false, cond}
use mathlib.Core.List.{List}
use Prim.Native.Nat.{ℕ, ◌%◌, ◌≤◌}
use native.Mathlib.Omega.{arith}
use lib.Dec.{eqb}
use lib.IntN.{ℤ}
use lib.ListN.{get_or}
use Rattle.sphere.specs.declared.point.Point.{Point}
use Rattle.polygon.specs.Vertices.{vertices_count, start_of, end_of}
use Rattle.polygon.specs.Border.{is_coincident, coincident_of, is_border}
use Rattle.polygon.proofs.Laws.Edges.{end_within}
use Rattle.cones.specs.Cones.{Covers}
use Rattle.cones.proofs.Laws.Covers.{covers_at}
use Rattle.cones.proofs.Laws.Coincident.{count_start, count_step, count_few}
use Rattle.cones.proofs.walk.is_border.Goals as goal

-- What one edge adds.
more : (vs : List ℤ) {A A' B B' : Point} {j j' n : ℕ} → n ≡ cond (is_coincident vs A B j) 1 0 → A ≡ A' → B ≡ B' → j ≡ j' →
    n ≡ cond (is_coincident vs A' B' j') 1 0
more vs e p q r = e ∙ (λ t. cond (is_coincident vs (p t) (q t) (r t)) 1 0)

one : (b : Bool) → cond b 1 0 ≤ 1
one true = omega arith
one false = omega arith

pub loop-e-init : goal.loop-e-init
loop-e-init c = record { before = omega arith; counted = count_start }

pub coincident-more-requires : goal.coincident-more-requires
coincident-more-requires c =
    let p = c.requires.listed in
    let at = covers_at c.requires.complete.covers c.loop-e.e (omega arith) c.loop-e-test.true in (
      p.1,
      omega (arith, c.from-j.ensures, at.below),
      rw c.vertex_at-a.ensures (p.1.each c.args.i p.2),
      end_within p.1 p.2 c.end_of-b.ensures,
    )

pub overflow_add-count : goal.overflow_add-count
overflow_add-count c =
    let vs = c.args.vertices.now in
    let entry = get_or c.args.list.now c.loop-e.e 0 in
    let at = covers_at c.requires.complete.covers c.loop-e.e (omega arith) c.loop-e-test.true in
    let few = count_few c.loop-e.invariant.counted entry at.before in
    omega (
      arith,
      few,
      at.below,
      c.requires.listed.0.most,
      one (is_coincident vs (start_of vs c.args.i) (end_of vs c.args.i) entry),
      more c.args.vertices.now c.coincident-more.ensures c.vertex_at-a.ensures c.end_of-b.ensures c.from-j.ensures,
    )

pub loop-e-preserved : goal.loop-e-preserved
loop-e-preserved c = record {
  before = omega (arith, c.loop-e-test.true);
  counted = rw (more c.args.vertices.now c.coincident-more.ensures c.vertex_at-a.ensures c.end_of-b.ensures c.from-j.ensures)
      (count_step (omega arith) c.loop-e.invariant.counted);
}

pub returns : goal.returns
unfolding is_border coincident_of
returns c =
    let v = c.args.vertices.now in
    let last : c.args.to ≡ c.loop-e.e = omega (arith, c.loop-e-test.false, c.loop-e.invariant.before) in
    let all = subst (λ b. Covers (λ j. is_coincident v (start_of v c.args.i) (end_of v c.args.i) j ≡ false)
    c.args.list.now 0 (vertices_count v) b) last c.requires.complete.covers in
    ap (λ (k : ℕ). eqb (k % 2) 1) (sym (c.loop-e.invariant.counted.count (vertices_count v) all))

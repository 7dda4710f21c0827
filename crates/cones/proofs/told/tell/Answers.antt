-- `tell` meets its contract: what is tallied before entry e, and what its edge says, is tallied before entry e + 1.
use mathlib.Core.Path.{◌≡◌, sym, ◌∙◌, ap, subst}
use mathlib.Core.Bool.{true, ◌&&◌, cond}
use mathlib.Core.List.{List}
use Prim.Native.Nat.{ℕ, ◌+◌, ◌≤◌, ◌<◌}
use native.Mathlib.Omega.{arith}
use borrow.Author.Rules.{sfits_of}
use lib.IntN.{ℤ, ◌+ℤ◌}
use lib.ListN.{get_or}
use mir.Syntax.{w32}
use mir.Val.{SFits, to_z, of_z}
use mir.ValLaws.{to_z-of_z}
use Rattle.integers.specs.Sign.{sign_of, is_zero, unit_of}
use Rattle.sphere.specs.declared.plane.Plane.{Plane}
use Rattle.sphere.specs.declared.point.Grid.{Grid}
use Rattle.sphere.specs.declared.point.Point.{Point}
use Rattle.sphere.specs.Point.{limit_of, Within}
use Rattle.sphere.specs.Orientation.{orientation_of}
use Rattle.sphere.specs.Plane.{plane_of}
use Rattle.sphere.proofs.Laws.Plane.{Made, plane_made, made_within, made_turn}
use Rattle.std.specs.declared.result.Result.TheVariants.{Ok}
use Rattle.answer.proofs.Laws.Chain.{both_true}
use Rattle.polygon.specs.Checks.{accept_check}
use Rattle.polygon.specs.Vertices.{vertices_count, start_of, end_of}
use Rattle.polygon.proofs.Laws.Checks.{accept_passed}
use Rattle.polygon.proofs.Laws.Edges.{ends_within}
use Rattle.search.specs.declared.walk.Tally.TheVariants.{Crossed}
use Rattle.search.specs.Walk.{tally_from}
use Rattle.azimuths.specs.declared.sectors.Passage.{Passage}
use Rattle.azimuths.specs.Sectors.{Idle, is_inside, turns_left, way_by, Telling}
use Rattle.cones.specs.declared.sure.SureSide.{SureSide}
use Rattle.cones.specs.declared.told.Told.{Told}
use Rattle.cones.specs.Cones.{Complete, Walked}
use Rattle.cones.specs.Sure.{Sure}
use Rattle.cones.proofs.Laws.Covers.{covers_at, Added, walk_add}
use Rattle.cones.proofs.Laws.Close.{told_way}
use Rattle.cones.proofs.told.tell.Invariants.{Given}
use Rattle.cones.proofs.told.tell.Goals as goal

given : {vs : List ℤ} {X P : Point} {sectors : List ℕ} {k : ℕ} {l : List ℕ} {to : ℕ} {told : Told} → Telling vs X P sectors k →
    Complete (Idle vs X P) (vertices_count vs) l 0 to → Walked vs X P l told.at told.crossed told.sum →
    Given vs X P sectors k l to told
given telling complete walked = record { telling = telling; complete = complete; walked = walked }

-- The entry at hand is an edge.
below : {vs : List ℤ} {X P : Point} {l : List ℕ} {to i : ℕ} (e : ℕ) → Complete (Idle vs X P) (vertices_count vs) l 0 to → e < to →
    i ≡ get_or l e 0 → i < vertices_count vs
below e all less same = omega (arith, same, (covers_at all.covers e (omega arith) less).below)

-- Its own plane.
module _ (grid : Grid) (vs : List ℤ) (X : Point) (i : ℕ) {A B : Point} (accepted : accept_check (limit_of grid) vs X ≡ Ok tt)
    (inside : i < vertices_count vs) (start : A ≡ start_of vs i) (end : B ≡ end_of vs i) where
  ends : Within (limit_of grid) A × Within (limit_of grid) B
  ends = ends_within (accept_passed accepted).gridded inside start end

  made : {edge : Plane} → edge ≡ plane_of grid A B → Made grid A B edge
  made e = plane_made grid _ _ ends.0 ends.1 e

-- It is tallied.
module _ {vs : List ℤ} {X P : Point} {sectors : List ℕ} {k : ℕ} {l : List ℕ} {to : ℕ} {old : Told} (told : Told)
    (most : vertices_count vs ≤ 4096) (g : Given vs X P sectors k l to old) (less : told.at < to)
    (walked : Walked vs X P l told.at told.crossed told.sum) where
  added : (grid : Grid) (i : ℕ) {A B : Point} {edge : Plane} (side : SureSide) (passage : Passage) (way : ℤ) {d : ℕ} →
      i ≡ get_or l told.at 0 → A ≡ start_of vs i → B ≡ end_of vs i → Made grid A B edge → Sure edge.normal P side →
      (passage.inside ≡ is_inside sectors k i) × (passage.left ≡ turns_left sectors i) →
      (side.sure && passage.inside) ≡ true → SFits w32 way → way ≡ unit_of (way_by passage.left side.left) →
      d ≡ cond (is_zero (sign_of (to_z w32 (of_z w32 way)))) 0 1 →
      Added vs X P l told.at (told.crossed + d) (to_z w32 (of_z w32 told.sum) +ℤ to_z w32 (of_z w32 way))
  added grid i side passage way {d} same start end m on by sure fit is count =
      let t = both_true side.sure passage.inside sure in
      let turned = sym (λ j. sign_of (orientation_of (start j) (end j) P)) ∙ sym (ap sign_of (made_turn m P)) ∙ on.side t.0 in
      let one = told_way g.telling i (below told.at g.complete less same) (sym by.0 ∙ t.1) side.left turned
      (is ∙ ap (λ b. unit_of (way_by b side.left)) by.1) (rw (to_z-of_z w32 way fit) at count) in
      walk_add told.sum way most fit (covers_at g.complete.covers told.at (omega arith) less) walked
      (subst (λ j. tally_from vs X P j 1 ≡ Crossed d way) same one)

pub vertex_at-requires : goal.vertex_at-requires
vertex_at-requires c = omega (arith, below c.loop-told.told.at c.requires.complete.0 c.loop-told-test.true c.from-i.ensures)

pub end_of-requires : goal.end_of-requires
end_of-requires c = below c.loop-told.told.at c.requires.complete.0 c.loop-told-test.true c.from-i.ensures

pub plane_through-edge-requires : goal.plane_through-edge-requires
plane_through-edge-requires c =
    let a = c.args in
    ends a.grid a.vertices.now a.known c.from-i.result c.requires.known_value.0
    (below c.loop-told.told.at c.requires.complete.0 c.loop-told-test.true c.from-i.ensures) c.vertex_at.ensures c.end_of.ensures

pub sure_side-side-requires : goal.sure_side-side-requires
sure_side-side-requires c =
    let a = c.args in
    let m = made a.grid a.vertices.now a.known c.from-i.result c.requires.known_value.0
    (below c.loop-told.told.at c.requires.complete.0 c.loop-told-test.true c.from-i.ensures) c.vertex_at.ensures c.end_of.ensures
    c.plane_through-edge.ensures in
    (m.sound, made_within m c.requires.known_value.1)

pub passage_at-passage-requires : goal.passage_at-passage-requires
passage_at-passage-requires c =
    omega (
      arith,
      below c.loop-told.told.at c.requires.complete.0 c.loop-told-test.true c.from-i.ensures,
      c.requires.telling.room,
    )

pub overflow_add-told : goal.overflow_add-told
overflow_add-told c =
    let a = c.args in
    let told = c.loop-told.told in
    let inv = c.loop-told.invariant in
    let m = made a.grid a.vertices.now a.known c.from-i.result c.requires.known_value.0
    (below told.at c.requires.complete.0 c.loop-told-test.true c.from-i.ensures) c.vertex_at.ensures c.end_of.ensures
    c.plane_through-edge.ensures in
    let g : Given a.vertices.now a.known a.query a.sectors.now a.k a.list.now a.to a.told =
    given c.requires.telling c.requires.complete.0 c.requires.complete.1.walked in
    omega (
      arith,
      (added told (accept_passed c.requires.known_value.0).listed.most g c.loop-told-test.true (inv.walked a.known g) a.grid
          c.from-i.result c.sure_side-side.result c.passage_at-passage.result c.way_by-way.result c.from-i.ensures c.vertex_at.ensures
          c.end_of.ensures m c.sure_side-side.ensures c.passage_at-passage.ensures c.if-not-sure.false
          (sfits_of c.way_by-way.type_inv) c.way_by-way.ensures c.counted.ensures).few,
    )

pub overflow_add-told-in-loop-told : goal.overflow_add-told-in-loop-told
overflow_add-told-in-loop-told c =
    let a = c.args in
    let told = c.loop-told.told in
    let inv = c.loop-told.invariant in
    let m = made a.grid a.vertices.now a.known c.from-i.result c.requires.known_value.0
    (below told.at c.requires.complete.0 c.loop-told-test.true c.from-i.ensures) c.vertex_at.ensures c.end_of.ensures
    c.plane_through-edge.ensures in
    let g : Given a.vertices.now a.known a.query a.sectors.now a.k a.list.now a.to a.told =
    given c.requires.telling c.requires.complete.0 c.requires.complete.1.walked in
    (added told (accept_passed c.requires.known_value.0).listed.most g c.loop-told-test.true (inv.walked a.known g) a.grid
    c.from-i.result c.sure_side-side.result c.passage_at-passage.result c.way_by-way.result c.from-i.ensures c.vertex_at.ensures
    c.end_of.ensures m c.sure_side-side.ensures c.passage_at-passage.ensures c.if-not-sure.false
    (sfits_of c.way_by-way.type_inv) c.way_by-way.ensures c.counted.ensures).fits

pub loop-told-preserved : goal.loop-told-preserved
loop-told-preserved c =
    let a = c.args in
    let told = c.loop-told.told in
    let inv = c.loop-told.invariant in
    let m = made a.grid a.vertices.now a.known c.from-i.result c.requires.known_value.0
    (below told.at c.requires.complete.0 c.loop-told-test.true c.from-i.ensures) c.vertex_at.ensures c.end_of.ensures
    c.plane_through-edge.ensures in
    record {
      after = omega (arith, inv.after);
      before = omega (arith, c.loop-told-test.true);
      walked = λ X g. (added told (accept_passed c.requires.known_value.0).listed.most g c.loop-told-test.true (inv.walked X g) a.grid
          c.from-i.result c.sure_side-side.result c.passage_at-passage.result c.way_by-way.result c.from-i.ensures c.vertex_at.ensures
          c.end_of.ensures m c.sure_side-side.ensures c.passage_at-passage.ensures c.if-not-sure.false
          (sfits_of c.way_by-way.type_inv) c.way_by-way.ensures c.counted.ensures).walked;
    }

pub returns-then-not-sure : goal.returns-then-not-sure
returns-then-not-sure c =
    let inv = c.loop-told.invariant in
    let g = given c.requires.telling c.requires.complete.0 c.requires.complete.1.walked in
    (record { before = inv.before; walked = inv.walked _ g }, inv.after)

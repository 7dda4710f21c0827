-- Two lists with the same edges, by directions and whichever way they are walked, give the same verdicts. Defined:
-- SameEdges (equal counts of every EdgeTest), Alike (what two lists' verdicts share), Bordered (a border edge holds the
-- query). Proved, in order: started_same, reversed_same, lengthened_same; alike_undone, alike_next; off_count,
-- count_off; class_border, clear_by; same_alike.
use mathlib.Core.Path.{◌≡◌, refl, sym, ◌∙◌, ap, ap₂}
use mathlib.Core.Bool.{Bool, true, false, ◌&&◌, true≢false}
use mathlib.Core.List.{List}
use Prim.Native.Nat.{ℕ, zero, suc, ◌%◌, ◌≤◌, ◌<◌}
use native.Mathlib.Omega.{arith}
use lib.Dec.{eqb}
use lib.IntN.{ℤ, pos, nat_abs}
use lib.ListN.{length}
use Rattle.sphere.specs.declared.point.Point.{Point}
use Rattle.sphere.specs.Orientation.{orientation_of}
use Rattle.sphere.specs.Crossing.{crosses_of}
use Rattle.sphere.specs.OnEdge.{is_on_edge}
use Rattle.polygon.specs.Border.{joins_of, is_coincident, coincident_of, is_border}
use Rattle.std.specs.declared.option.Option.TheVariants.{None}
use Rattle.answer.specs.Search.{count_from}
use Rattle.answer.proofs.Laws.Search.{first_none}
use Rattle.answer.proofs.Laws.First.{none_first}
use Rattle.answer.proofs.Laws.Blocks.{count_none}
use Rattle.answer.proofs.Laws.Sum.{count_ring}
use Rattle.polygon.specs.Vertices.{vertices_count, vertex_at, next_of, start_of, end_of, reversed_of}
use Rattle.polygon.specs.Verdict.{is_held_by, is_on_border, boundary_of, crossings_of}
use Rattle.polygon.proofs.Laws.Edges.{next_below}
use Rattle.polygon.proofs.Laws.Reversed.{reversed_count, reversed_mirrored}
use Rattle.polygon.proofs.Laws.Checks.{OffCircles}
use Rattle.redraw.specs.Redraw.{started_at, Lengthened}
use Rattle.redraw.proofs.Directions.{EdgeTest, crosses_test, joins_test, on_circle, circle_test}
pub use Rattle.polygon.proofs.Laws.Directions.{class_same}
use Rattle.redraw.proofs.Directions.{off→none, none→off, joined_on}
use Rattle.redraw.proofs.Rings.{edge_count, one, count_edges, started_sum}
use Rattle.redraw.proofs.Counts.{count_same, Some, count_zero, odd_some}

-- ---- the same edges
abbrev pub SameEdges : List ℤ → List ℤ → Type 0
SameEdges vs ws = (f : Point → Point → Bool) → EdgeTest f → edge_count f vs ≡ edge_count f ws

pub started_same : (vs : List ℤ) (k : ℕ) → length vs % 3 ≡ 0 → k ≤ vertices_count vs → SameEdges vs (started_at vs k)
started_same vs k whole low f t =
    let same : pos (edge_count f vs) ≡ pos (edge_count f (started_at vs k)) =
    count_edges f vs ∙ sym (count_edges f (started_at vs k) ∙ started_sum (one f) vs k whole low) in
    ap nat_abs same

pub reversed_same : (vs : List ℤ) → SameEdges vs (reversed_of vs)
unfolding count_from
reversed_same vs f t = go (vertices_count vs) refl
  where
    ws : List ℤ
    ws = reversed_of vs

    turned : (i j : ℕ) → start_of ws i ≡ end_of vs j → end_of ws i ≡ start_of vs j →
        f (start_of ws i) (end_of ws i) ≡ f (start_of vs j) (end_of vs j)
    turned i j a b = ap₂ f a b ∙ t.turned (end_of vs j) (start_of vs j)

    old : ℕ → Bool
    old i = f (start_of vs i) (end_of vs i)

    new : ℕ → Bool
    new i = f (start_of ws i) (end_of ws i)

    go : (n : ℕ) → vertices_count vs ≡ n → edge_count f vs ≡ edge_count f ws
    go zero e = ap (count_from old 0) e ∙ sym (ap (count_from new 0) (reversed_count vs ∙ e))
    go (suc m) e = let r = reversed_mirrored vs m e in
        ap (count_from old 0) e
        ∙ sym (count_ring new old m (λ a b d. let u = r.inner a b d in turned a b u.0 u.1)
        (turned m m r.last.0 r.last.1))
        ∙ sym (ap (count_from new 0) (reversed_count vs ∙ e))

pub lengthened_same : (vs ws : List ℤ) → Lengthened vs ws → SameEdges vs ws
lengthened_same vs ws l f t = rw l.count
    (count_same (λ i. f (start_of vs i) (end_of vs i))
    (λ i. f (start_of ws i) (vertex_at ws (next_of (vertices_count vs) i))) 0 (vertices_count vs) (λ i from below.
    let h : i < vertices_count vs = omega arith in
    t.aligned _ _ _ _ (l.each i h) (l.each (next_of (vertices_count vs) i) (next_below (vertices_count vs) i h))))

-- ---- what the verdicts of two lists share, for a reference point X
pub record Alike (vs ws : List ℤ) (X : Point) : Type 0 where
  pub off_to : OffCircles vs X → OffCircles ws X
  pub off_from : OffCircles ws X → OffCircles vs X
  pub crossings : (P : Point) → crossings_of ws X P ≡ crossings_of vs X P
  pub clear_to : OffCircles vs X → (P : Point) → boundary_of vs P ≡ None → boundary_of ws P ≡ None
  pub clear_from : OffCircles vs X → (P : Point) → boundary_of ws P ≡ None → boundary_of vs P ≡ None

pub alike_undone : {vs ws : List ℤ} {X : Point} → Alike vs ws X → Alike ws vs X
alike_undone a = record {
  off_to = a.off_from;
  off_from = a.off_to;
  crossings = λ P. sym (a.crossings P);
  clear_to = λ o P. a.clear_from (a.off_from o) P;
  clear_from = λ o P. a.clear_to (a.off_from o) P;
}

pub alike_next : {vs us ws : List ℤ} {X : Point} → Alike vs us X → Alike us ws X → Alike vs ws X
alike_next a b = record {
  off_to = λ o. b.off_to (a.off_to o);
  off_from = λ o. a.off_from (b.off_from o);
  crossings = λ P. b.crossings P ∙ a.crossings P;
  clear_to = λ o P h. b.clear_to (a.off_to o) P (a.clear_to o P h);
  clear_from = λ o P h. a.clear_from o P (b.clear_from (a.off_to o) P h);
}

-- ---- X is off every circle exactly if the count of circles that hold it is 0
module _ (vs : List ℤ) (X : Point) where
  pub off_count : OffCircles vs X → edge_count (on_circle X) vs ≡ 0
  off_count off = count_none (λ i. on_circle X (start_of vs i) (end_of vs i)) 0 (vertices_count vs)
      (λ i from below. off→none (start_of vs i) (end_of vs i) X (off i (omega arith)))

  pub count_off : edge_count (on_circle X) vs ≡ 0 → OffCircles vs X
  count_off h i below = none→off (start_of vs i) (end_of vs i) X
      (count_zero (λ i. on_circle X (start_of vs i) (end_of vs i)) 0 (vertices_count vs) h i (omega arith) (omega arith))

-- ---- the edges that join two directions: if they are odd in number and hold P, one of them is border and holds P
abbrev pub Bordered : List ℤ → Point → Type 0
Bordered vs P = Some (is_on_border vs P) 0 (vertices_count vs)

pub class_border : (vs : List ℤ) (X P C D : Point) → (orientation_of C D X ≡ pos 0 → ⊥) →
    eqb (coincident_of vs C D % 2) 1 ≡ true → is_on_edge C D P ≡ true → Bordered vs P
unfolding coincident_of is_border
class_border vs X P C D off odd on =
    let s = odd_some (is_coincident vs C D) 0 (vertices_count vs) odd in
    let j = s.place in
    record {
      place = j;
      from = s.from;
      below = s.below;
      holds = ap₂ ◌&&◌ (sym (joined_on C D (start_of vs j) (end_of vs j) X P off s.holds) ∙ on)
          (ap (λ n. eqb (n % 2) 1) (class_same vs (start_of vs j) (end_of vs j) C D s.holds) ∙ odd);
    }

-- Each border edge of ws that holds P has one of vs: so where vs is clear, ws is.
both_of : (a b : Bool) → (a ≡ true → b ≡ true → ⊥) → (a && b) ≡ false
both_of true true h = absurd (h refl refl)
both_of true false h = refl
both_of false b h = refl

pub clear_by : (vs ws : List ℤ) (P : Point) →
    ((i : ℕ) → i < vertices_count ws → is_held_by ws P i ≡ true → is_border ws i ≡ true → Bordered vs P) →
    boundary_of vs P ≡ None → boundary_of ws P ≡ None
unfolding boundary_of
clear_by vs ws P to h = none_first (is_on_border ws P) 0 (vertices_count ws)
    (λ i from below. both_of (is_held_by ws P i) (is_border ws i) (λ a b. let s = to i (omega arith) a b in
    true≢false (sym s.holds ∙ first_none (is_on_border vs P) 0 (vertices_count vs) s.place h s.from s.below)))

-- ---- lists with the same edges
same_clear : (vs ws : List ℤ) (X P : Point) → SameEdges vs ws → OffCircles ws X →
    boundary_of vs P ≡ None → boundary_of ws P ≡ None
unfolding is_border coincident_of
same_clear vs ws X P same off = clear_by vs ws P (λ i below held border.
    let A = start_of ws i in
    let B = end_of ws i in
    class_border vs X P A B (off i below)
    (ap (λ n. eqb (n % 2) 1) (same (joins_of A B) (joins_test A B)) ∙ border) held)

same_off : (vs ws : List ℤ) (X : Point) → SameEdges vs ws → OffCircles vs X → OffCircles ws X
same_off vs ws X same off = count_off ws X (sym (same (on_circle X) (circle_test X)) ∙ off_count vs X off)

pub same_alike : (vs ws : List ℤ) (X : Point) → SameEdges vs ws → Alike vs ws X
unfolding crossings_of
same_alike vs ws X same =
    record {
      off_to = same_off vs ws X same;
      off_from = same_off ws vs X back;
      crossings = λ P. back (crosses_of X P) (crosses_test X P);
      clear_to = λ o P. same_clear vs ws X P same (same_off vs ws X same o);
      clear_from = λ o P. same_clear ws vs X P back o;
    }
  where
    back : SameEdges ws vs
    back f t = sym (same f t)

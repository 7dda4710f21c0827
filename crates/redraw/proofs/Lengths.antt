-- Lengthened vectors: each edge is tested as before, at the same number. Proved, in order: same_winding; same_verdict.
use mathlib.Core.Path.{◌≡◌, sym, ◌∙◌, ap, ap₂}
use mathlib.Core.Bool.{true, ◌&&◌}
use mathlib.Core.List.{List}
use Prim.Native.Nat.{ℕ, ◌%◌, ◌<◌}
use native.Mathlib.Omega.{arith}
use lib.Dec.{eqb}
use lib.IntN.{ℤ}
use Rattle.integers.specs.Sign.{unit_of}
use Rattle.sphere.specs.declared.point.Point.{Point}
use Rattle.sphere.specs.Direction.{is_same_direction}
use Rattle.polygon.specs.Border.{joins_of, coincident_of, is_border}
use Rattle.sphere.proofs.Laws.Aligned.{Aligned}
use Rattle.sphere.proofs.Laws.Crossing.{crossing_aligned, crosses_aligned}
use Rattle.sphere.proofs.Laws.OnEdge.{on_edge_aligned}
use Rattle.polygon.proofs.Laws.Joined.{joins_self}
use Rattle.answer.specs.Search.{first_from, count_from, sum_from}
use Rattle.polygon.specs.Vertices.{vertices_count, vertex_at, next_of, start_of, end_of}
use Rattle.polygon.specs.Verdict.{is_on_border, is_crossed, way_of, boundary_of, crossings_of, winding_of, verdict_by, verdict_of}
use Rattle.polygon.proofs.Laws.Edges.{next_below}
use Rattle.polygon.proofs.Laws.Checks.{OffCircles}
use Rattle.redraw.specs.Redraw.{Lengthened}
use Rattle.redraw.proofs.Directions.{align, joins_test}
use Rattle.redraw.proofs.Counts.{first_same, count_same, sum_same}
use Rattle.redraw.proofs.Alike.{lengthened_same, class_same}

module _ (vs ws : List ℤ) (l : Lengthened vs ws) (X X' P P' : Point) (x : Aligned X X') (p : Aligned P P') where
  same_end : (i : ℕ) → i < vertices_count vs → is_same_direction (end_of vs i) (end_of ws i) ≡ true
  same_end i h = ap (λ n. is_same_direction (end_of vs i) (vertex_at ws (next_of n i))) l.count
      ∙ l.each (next_of (vertices_count vs) i) (next_below (vertices_count vs) i h)

  start : (i : ℕ) → i < vertices_count vs → Aligned (start_of vs i) (start_of ws i)
  start i h = align (start_of vs i) (start_of ws i) (l.each i h)

  end : (i : ℕ) → i < vertices_count vs → Aligned (end_of vs i) (end_of ws i)
  end i h = align (end_of vs i) (end_of ws i) (same_end i h)

  pub same_winding : winding_of ws X' P' ≡ winding_of vs X P
  unfolding winding_of
  same_winding = ap (sum_from (way_of ws X' P') 0) l.count
      ∙ sum_same (way_of ws X' P') (way_of vs X P) 0 (vertices_count vs) (λ i a b. let h : i < vertices_count vs = omega arith in
      ap unit_of (sym (crossing_aligned X P (start_of vs i) (end_of vs i) X' P' (start_of ws i) (end_of ws i) x p (start i h)
      (end i h))))

  same_crossings : crossings_of ws X' P' ≡ crossings_of vs X P
  unfolding crossings_of
  same_crossings = ap (count_from (is_crossed ws X' P') 0) l.count
      ∙ count_same (is_crossed ws X' P') (is_crossed vs X P) 0 (vertices_count vs) (λ i a b.
      let h : i < vertices_count vs = omega arith in
      sym (crosses_aligned X P (start_of vs i) (end_of vs i) X' P' (start_of ws i) (end_of ws i) x p (start i h) (end i h)))

  -- ---- the border, of a reference point that is off the circles
  module _ (off : OffCircles vs X) where
    same-pair : (i : ℕ) → i < vertices_count vs → joins_of (start_of vs i) (end_of vs i) (start_of ws i) (end_of ws i) ≡ true
    same-pair i h =
        sym ((joins_test (start_of vs i) (end_of vs i)).aligned (start_of vs i) (end_of vs i) (start_of ws i) (end_of ws i)
        (l.each i h) (same_end i h)) ∙ joins_self (start_of vs i) (end_of vs i) X (off i h)

    same-border : (i : ℕ) → i < vertices_count vs → is_border ws i ≡ is_border vs i
    unfolding is_border coincident_of
    same-border i h = ap (λ n. eqb (n % 2) 1)
        (class_same ws (start_of ws i) (end_of ws i) (start_of vs i) (end_of vs i) (same-pair i h)
        ∙ sym (lengthened_same vs ws l (joins_of (start_of vs i) (end_of vs i)) (joins_test (start_of vs i) (end_of vs i))))

    same-boundary : boundary_of ws P' ≡ boundary_of vs P
    unfolding boundary_of
    same-boundary = ap (first_from (is_on_border ws P') 0) l.count
        ∙ first_same (is_on_border ws P') (is_on_border vs P) 0 (vertices_count vs) (λ i a b.
        let h : i < vertices_count vs = omega arith in
        ap₂ ◌&&◌ (sym (on_edge_aligned (start_of vs i) (end_of vs i) X (off i h) P (start_of ws i) (end_of ws i) P'
        (start i h) (end i h) p)) (same-border i h))

    pub same_verdict : verdict_of ws X' P' ≡ verdict_of vs X P
    unfolding verdict_of
    same_verdict = λ t. verdict_by (same-boundary t) (same_crossings t) (same_winding t)

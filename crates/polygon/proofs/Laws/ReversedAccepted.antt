-- A polygon from last vertex to first is accepted with the same reference point. Proved, in order: reversed_list,
-- reversed_beyond, reversed_circle; reversed_accepted, reversed_judged.
use mathlib.Core.Path.{◌≡◌, sym, ◌∙◌, ap, ap₂}
use mathlib.Core.Bool.{Bool, true, false, ◌&&◌}
use mathlib.Core.List.{List}
use Prim.Native.Nat.{ℕ, suc, ◌*◌, ◌-◌, ◌%◌, ◌/◌, ◌≤◌, ◌<◌}
use native.Mathlib.Omega.{arith}
use borrow.Author.Tests.{eq-eqb, le-leb}
use lib.Dec.{eqb, leb}
use lib.IntN.{ℤ, neg_ℤ}
use Rattle.integers.specs.Sign.{sign_of, is_zero}
use Rattle.sphere.specs.declared.point.Point.{Point}
use Rattle.sphere.specs.Point.{is_beyond}
use Rattle.sphere.specs.Orientation.{orientation_of}
use Rattle.sphere.proofs.Laws.Orientation.{orientation_swap}
use Rattle.sphere.proofs.Laws.OnEdge.{ne→not-zero}
use Rattle.std.specs.declared.result.Result.TheVariants.{Ok}
use Rattle.answer.specs.declared.Reason.TheVariants.{VertexBeyond}
use Rattle.answer.specs.Search.{first_from}
use Rattle.answer.specs.Chain.{◌then◌}
use Rattle.answer.proofs.Laws.Chain.{passed, fails_at_passed, then_passed}
use Rattle.answer.proofs.Laws.First.{none_first}
use Rattle.answer.proofs.Laws.Search.{first_none}
use Rattle.polygon.specs.Vertices.{vertices_count, vertex_at, start_of, end_of, reversed_of}
use Rattle.polygon.specs.Checks.{is_vertex_list, list_check, beyond_check, reference_check, circle_check, query_check}
use Rattle.polygon.specs.Checks.{far_check, polygon_check, accept_check, judge_check}
use Rattle.polygon.specs.Accepted.{Listed}
use Rattle.polygon.proofs.Laws.Checks.{list_passed, polygon_first, accept_polygon, circle_passed, accept_short}
use Rattle.polygon.proofs.Laws.Reversed.{reversed_length, reversed_count, reversed_vertex, partner}
use Rattle.polygon.proofs.Laws.Reversed.{reversed_mirrored}

whole : (n : ℕ) → 3 ≤ n → n ≤ 4096 → (eqb (n * 3 % 3) 0 && (leb 3 (n * 3 / 3) && leb (n * 3 / 3) 4096)) ≡ true
whole n least most =
    rw (
      eq-eqb (n * 3 % 3) 0 (omega arith),
      le-leb 3 (n * 3 / 3) (omega arith),
      le-leb (n * 3 / 3) 4096 (omega arith),
    )

module _ (limit : ℕ) (vs : List ℤ) where
  reversed_list : list_check vs ≡ Ok tt → list_check (reversed_of vs) ≡ Ok tt
  unfolding list_check
  reversed_list e =
      let l = list_passed {vs = vs} e in
      let all : is_vertex_list (reversed_of vs) ≡ true =
      rw (reversed_length vs) (whole (vertices_count vs) l.least l.most) in
      rw all

  reversed_beyond : beyond_check limit vs ≡ Ok tt → beyond_check limit (reversed_of vs) ≡ Ok tt
  unfolding beyond_check
  reversed_beyond e =
      let test : ℕ → Bool = λ i. is_beyond limit (vertex_at vs i) in
      let none = fails_at_passed VertexBeyond (first_from test 0 (vertices_count vs)) e in
      rw (none_first (λ i. is_beyond limit (vertex_at (reversed_of vs) i)) 0 (vertices_count (reversed_of vs))
      (λ i h l.
      let n : i < vertices_count vs = omega (arith, l, reversed_count vs) in
      ap (is_beyond limit) (reversed_vertex vs i (vertices_count vs - suc i) (omega (arith, n)))
      ∙ first_none test 0 (vertices_count vs) (vertices_count vs - suc i) none (omega arith) (omega (arith, n))))

  reversed_circle : (X : Point) → Listed vs → circle_check vs X ≡ Ok tt → circle_check (reversed_of vs) X ≡ Ok tt
  unfolding circle_check
  reversed_circle X listed e =
      rw (none_first (λ i. is_zero (sign_of (orientation_of (start_of ws i) (end_of ws i) X))) 0 (vertices_count ws)
      (λ i h l. edge i (omega (arith, l, reversed_count vs))))
    where
      ws : List ℤ
      ws = reversed_of vs

      m : ℕ
      m = vertices_count vs - 1

      ring : vertices_count vs ≡ suc (vertices_count vs - 1)
      ring = omega (arith, listed.least)

      edge : (i : ℕ) → i < vertices_count vs → is_zero (sign_of (orientation_of (start_of ws i) (end_of ws i) X)) ≡ false
      edge i l =
          let p = partner vs ws m i (reversed_mirrored vs m ring) (omega (arith, l, ring)) in
          let A = start_of vs p.edge in
          let B = end_of vs p.edge in
          let back : orientation_of (start_of ws i) (end_of ws i) X ≡ orientation_of B A X =
          ap₂ (λ A B. orientation_of A B X) p.turned.0 p.turned.1 in
          ne→not-zero (orientation_of (start_of ws i) (end_of ws i) X) (λ z.
          circle_passed vs X e p.edge (omega (arith, p.below, ring))
          (orientation_swap A B X ∙ ap neg_ℤ (sym back ∙ z)))

module _ (limit : ℕ) (vs : List ℤ) (X : Point) (e : accept_check limit vs X ≡ Ok tt) where
  pub reversed_accepted : accept_check limit (reversed_of vs) X ≡ Ok tt
  unfolding accept_check
  reversed_accepted =
      let rest = (then_passed (polygon_check limit vs) (reference_check limit X then circle_check vs X) e).1 in
      let point = then_passed (reference_check limit X) (circle_check vs X) rest in
      let first = polygon_first limit vs (accept_polygon limit vs X e) in
      passed (accept_check limit (reversed_of vs) X)
      (accept_short limit (reversed_of vs) X (reversed_list limit vs first.0) (reversed_beyond limit vs first.1)
      ∙ rw (point.0, reversed_circle limit vs X (list_passed {vs = vs} first.0) point.1))

-- And so is a query.
pub reversed_judged : (limit : ℕ) (vs : List ℤ) (X P : Point) → judge_check limit vs X P ≡ Ok tt →
    judge_check limit (reversed_of vs) X P ≡ Ok tt
unfolding judge_check
reversed_judged limit vs X P e =
    let all = then_passed (accept_check limit vs X) (query_check limit P then far_check X P) e in
    rw (reversed_accepted limit vs X all.0) all.1

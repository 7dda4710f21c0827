-- A vertex M added to every edge that joins the directions of A and B: sums over the new edges, by the old ones.
-- Defined: halved (an edge's term, or its two halves'), EdgeTerm (a term that knows only the two directions, and turns
-- with the edge). Proved, in order: added_sum; counted, halves; share_sum, share_count (where each old edge has its
-- share).
use mathlib.Core.Path.{◌≡◌, refl, sym, ◌∙◌, ap, ap₂}
use mathlib.Core.Bool.{Bool, true, false, cond}
use mathlib.Core.List.{List}
use Prim.Native.Nat.{ℕ, zero, suc, ◌+◌, ◌<◌}
use native.Mathlib.Omega.{arith}
use lib.IntN.{ℤ, pos, nat_abs, ◌+ℤ◌, +ℤ_comm, +ℤ_assoc}
use Rattle.sphere.specs.declared.point.Point.{Point}
use Rattle.sphere.specs.Point.{is_null}
use Rattle.sphere.specs.Direction.{is_same_direction}
use Rattle.polygon.specs.Border.{joins_of, is_coincident}
use Rattle.answer.specs.Search.{sum_from}
use Rattle.polygon.specs.Vertices.{vertices_count, vertex_at, next_of, start_of, end_of}
use Rattle.polygon.proofs.Laws.Count.{next_inner, next_last}
use Rattle.redraw.specs.Redraw.{put, added_from}
use Rattle.redraw.proofs.Directions.{EdgeTest, joined_cases, same_self}
use Rattle.redraw.proofs.Rings.{edge_sum, edge_count, one, count_edges, points_of, head_or, path, ring, ring_edges}
use Rattle.redraw.proofs.Counts.{sum_same}

-- The list with M added.
abbrev pub with_added : List ℤ → Point → Point → Point → List ℤ
with_added vs A B M = added_from vs A B M 0 (vertices_count vs)

-- An edge, or its two halves.
abbrev pub halved : (Point → Point → ℤ) → Point → Point → Point → Point → Point → ℤ
halved g A B M C D = cond (joins_of A B C D) (g C M +ℤ g M D) (g C D)

module _ (g : Point → Point → ℤ) (vs : List ℤ) (A B M : Point) where
  abbrev points : ℕ → ℕ → List Point
  points i k = points_of (added_from vs A B M i k)

  abbrev n : ℕ
  n = vertices_count vs

  abbrev term : ℕ → ℤ
  term j = halved g A B M (vertex_at vs j) (vertex_at vs (next_of n j))

  head_next : (i k : ℕ) → i + suc k ≡ n → head_or (vertex_at vs 0) (points (suc i) k) ≡ vertex_at vs (next_of n i)
  unfolding added_from points_of head_or
  head_next i zero e = ap (vertex_at vs) (sym (next_last n i (omega arith)))
  head_next i (suc k) e = ap (vertex_at vs) (sym (next_inner n i k e))

  added_path : (i k : ℕ) → i + k ≡ n → path g (points i k) (vertex_at vs 0) ≡ sum_from term i k
  unfolding added_from points_of head_or path sum_from
  added_path i zero e = refl
  added_path i (suc k) e =
      go (is_coincident vs A B i) (head_next i k e) (added_path (suc i) k (omega arith))
    where
      start : Point
      start = vertex_at vs i

      end : Point
      end = vertex_at vs (next_of n i)

      rest : List ℤ
      rest = added_from vs A B M (suc i) k

      go : (t : Bool) → head_or (vertex_at vs 0) (points_of rest) ≡ end →
          path g (points_of rest) (vertex_at vs 0) ≡ sum_from term (suc i) k →
          path g (points_of (put start (cond t (put M rest) rest))) (vertex_at vs 0)
          ≡ cond t (g start M +ℤ g M end) (g start end) +ℤ sum_from term (suc i) k
      go true h q =
          ap (λ s. g start M +ℤ s) (ap₂ ◌+ℤ◌ (ap (g M) h) q)
          ∙ sym (+ℤ_assoc (g start M) (g M end) (sum_from term (suc i) k))
      go false h q = ap₂ ◌+ℤ◌ (ap (g start) h) q

-- The list has a vertex.
pub added_sum : (g : Point → Point → ℤ) (vs : List ℤ) (A B M : Point) → 0 < vertices_count vs →
    edge_sum g (with_added vs A B M) ≡ edge_sum (halved g A B M) vs
unfolding added_from points_of path ring
added_sum g vs A B M some =
    ring_edges g (with_added vs A B M) ∙ closed (vertices_count vs) some
    ∙ added_path g vs A B M 0 (vertices_count vs) (omega arith)
  where
    closed : (k : ℕ) → 0 < k → ring g (points_of (added_from vs A B M 0 k))
        ≡ path g (points_of (added_from vs A B M 0 k)) (vertex_at vs 0)
    closed zero h = absurd (omega arith)
    closed (suc k) h = refl

-- ---- terms by the edge's directions: turned with the edge, as a sign is, or not, as a count is
pub record EdgeTerm (turn : ℤ → ℤ) (g : Point → Point → ℤ) : Type 0 where
  pub turned : (A B : Point) → g A B ≡ turn (g B A)
  pub aligned : (A B C D : Point) → is_same_direction A C ≡ true → is_same_direction B D ≡ true → g A B ≡ g C D

abbrev bit : Bool → ℤ
bit b = pos (cond b 1 0)

counted : (f : Point → Point → Bool) → EdgeTest f → EdgeTerm (λ z. z) (one f)
counted f t = record {
  turned = λ A B. ap bit (t.turned A B);
  aligned = λ A B C D a b. ap bit (t.aligned A B C D a b);
}

module _ (turn : ℤ → ℤ) (add : (a b : ℤ) → turn (a +ℤ b) ≡ turn a +ℤ turn b) (g h : Point → Point → ℤ)
    (s : EdgeTerm turn g) (t : EdgeTerm turn h) (A B M : Point) (some : is_null M ≡ false)
    (mid : g A M +ℤ g M B ≡ h A B) where
  -- an edge that joins A and B, by its halves
  halves : (C D : Point) → joins_of A B C D ≡ true → g C M +ℤ g M D ≡ h C D
  halves C D j = joined_cases A B C D j
      (λ a b. sym (ap₂ ◌+ℤ◌ (s.aligned A M C M a M-M) (s.aligned M B M D M-M b)) ∙ mid ∙ t.aligned A B C D a b)
      (λ a b. ap₂ ◌+ℤ◌ (s.turned C M ∙ ap turn (sym (s.aligned M B M C M-M b)))
      (s.turned M D ∙ ap turn (sym (s.aligned A M D M a M-M)))
      ∙ sym (add (g M B) (g A M)) ∙ ap turn (+ℤ_comm (g M B) (g A M) ∙ mid ∙ t.aligned A B D C a b)
      ∙ sym (t.turned C D))
    where
      M-M : is_same_direction M M ≡ true
      M-M = same_self M some

  pub share_sum : (vs : List ℤ) → 0 < vertices_count vs →
      ((i : ℕ) → i < vertices_count vs → joins_of A B (start_of vs i) (end_of vs i) ≡ false →
      g (start_of vs i) (end_of vs i) ≡ h (start_of vs i) (end_of vs i)) →
      edge_sum g (with_added vs A B M) ≡ edge_sum h vs
  share_sum vs full rest =
      added_sum g vs A B M full
      ∙ sum_same (λ i. halved g A B M (start_of vs i) (end_of vs i)) (λ i. h (start_of vs i) (end_of vs i)) 0
      (vertices_count vs) (λ i from below. go i (omega arith) (joins_of A B (start_of vs i) (end_of vs i)) refl)
    where
      go : (i : ℕ) → i < vertices_count vs → (b : Bool) → joins_of A B (start_of vs i) (end_of vs i) ≡ b →
          cond b (g (start_of vs i) M +ℤ g M (end_of vs i)) (g (start_of vs i) (end_of vs i))
          ≡ h (start_of vs i) (end_of vs i)
      go i below true e = halves (start_of vs i) (end_of vs i) e
      go i below false e = rest i below e

pub share_count : (f h : Point → Point → Bool) → EdgeTest f → EdgeTest h → (vs : List ℤ) (A B M : Point) →
    is_null M ≡ false → 0 < vertices_count vs → one f A M +ℤ one f M B ≡ one h A B →
    ((i : ℕ) → i < vertices_count vs → joins_of A B (start_of vs i) (end_of vs i) ≡ false →
    f (start_of vs i) (end_of vs i) ≡ h (start_of vs i) (end_of vs i)) →
    edge_count f (with_added vs A B M) ≡ edge_count h vs
share_count f h tf th vs A B M some full mid rest =
    let same : pos (edge_count f (with_added vs A B M)) ≡ pos (edge_count h vs) =
    count_edges f (with_added vs A B M)
    ∙ share_sum (λ z. z) (λ a b. refl) (one f) (one h) (counted f tf) (counted h th) A B M some mid vs full
    (λ i below no. ap bit (rest i below no))
    ∙ sym (count_edges h vs) in
    ap nat_abs same

-- Sums over the edges of a polygon, by its list of points. Defined: edge_sum (over the edges, by index), edge_count,
-- points_of, head_or, path, ring (the same along and round the list of points). Proved, in order: count_edges; ring_turn,
-- ring_edges; started_sum (a list that starts elsewhere has the same sums).
use mathlib.Core.Path.{◌≡◌, refl, sym, ◌∙◌, ap, ap₂}
use mathlib.Core.Bool.{Bool, cond}
use mathlib.Core.List.{List, [], ◌∷◌, ◌++◌}
use Prim.Native.Nat.{ℕ, zero, suc, ◌+◌, ◌*◌, ◌-◌, ◌%◌, ◌/◌, ◌≤◌}
use native.Mathlib.Omega.{arith}
use lib.IntN.{ℤ, pos, ◌+ℤ◌, +ℤ_idl, +ℤ_idr, +ℤ_comm, +ℤ_assoc}
use lib.ListN.{length, take, drop, length-drop, take-append-drop}
use Rattle.sphere.specs.declared.point.Point.{Point}
use Rattle.answer.specs.Search.{count_from, sum_from}
use Rattle.answer.proofs.Laws.Sum.{count_sum}
use Rattle.polygon.specs.Vertices.{vertices_count, vertex_at, next_of, start_of, end_of}
use Rattle.polygon.proofs.Laws.Count.{next_inner, next_last}
use Rattle.polygon.proofs.Laws.Reversed.{vertex_later}
use Rattle.redraw.specs.Redraw.{started_at}

-- ---- over the edges
abbrev pub edge_sum : (Point → Point → ℤ) → List ℤ → ℤ
edge_sum g vs = sum_from (λ i. g (start_of vs i) (end_of vs i)) 0 (vertices_count vs)

abbrev pub edge_count : (Point → Point → Bool) → List ℤ → ℕ
edge_count f vs = count_from (λ i. f (start_of vs i) (end_of vs i)) 0 (vertices_count vs)

-- A count is a sum of ones.
abbrev pub one : (Point → Point → Bool) → Point → Point → ℤ
one f C D = pos (cond (f C D) 1 0)

pub count_edges : (f : Point → Point → Bool) (vs : List ℤ) → pos (edge_count f vs) ≡ edge_sum (one f) vs
count_edges f vs = count_sum (λ i. f (start_of vs i) (end_of vs i)) 0 (vertices_count vs)

-- ---- the points of a list
unfoldable pub points_of : List ℤ → List Point
points_of [] = []
points_of (x ∷ []) = []
points_of (x ∷ y ∷ []) = []
points_of (x ∷ y ∷ z ∷ l) = record { x = x; y = y; z = z } ∷ points_of l

vertices_from : List ℤ → ℕ → ℕ → List Point
vertices_from vs i zero = []
vertices_from vs i (suc k) = vertex_at vs i ∷ vertices_from vs (suc i) k

vertices_later : (x y z : ℤ) (vs : List ℤ) (i k : ℕ) → vertices_from (x ∷ y ∷ z ∷ vs) (suc i) k ≡ vertices_from vs i k
unfolding vertices_from
vertices_later x y z vs i zero = refl
vertices_later x y z vs i (suc k) = ap₂ ◌∷◌ (vertex_later x y z vs i) (vertices_later x y z vs (suc i) k)

vertices_points : (vs : List ℤ) → vertices_from vs 0 (vertices_count vs) ≡ points_of vs
unfolding vertices_from points_of vertex_at
vertices_points [] = refl
vertices_points (x ∷ []) = refl
vertices_points (x ∷ y ∷ []) = refl
vertices_points (x ∷ y ∷ z ∷ l) =
    ap (vertices_from (x ∷ y ∷ z ∷ l) 0) more ∙ ap (λ r. record { x = x; y = y; z = z } ∷ r)
    (vertices_later x y z l 0 (vertices_count l) ∙ vertices_points l)
  where
    more : vertices_count (x ∷ y ∷ z ∷ l) ≡ suc (vertices_count l)
    more = omega arith

-- ---- sums along a path that goes on to z, and round a ring
unfoldable pub head_or : Point → List Point → Point
head_or z [] = z
head_or z (p ∷ ps) = p

append-nil : (l : List Point) → l ++ [] ≡ l
append-nil [] = refl
append-nil (p ∷ l) = ap (λ r. p ∷ r) (append-nil l)

module _ (g : Point → Point → ℤ) where
  unfoldable pub path : List Point → Point → ℤ
  path [] z = pos 0
  path (p ∷ ps) z = g p (head_or z ps) +ℤ path ps z

  unfoldable pub ring : List Point → ℤ
  ring [] = pos 0
  ring (p ∷ ps) = path (p ∷ ps) p

  path_append : (ps qs : List Point) (z : Point) → path (ps ++ qs) z ≡ path ps (head_or z qs) +ℤ path qs z
  unfolding path head_or
  path_append [] qs z = sym (+ℤ_idl (path qs z))
  path_append (p ∷ []) qs z =
      ap (λ a. a +ℤ path qs z) (sym (+ℤ_idr (g p (head_or z qs))))
  path_append (p ∷ q ∷ ps) qs z =
      ap (λ s. g p q +ℤ s) (path_append (q ∷ ps) qs z)
      ∙ sym (+ℤ_assoc (g p q) (path (q ∷ ps) (head_or z qs)) (path qs z))

  pub ring_turn : (ps qs : List Point) → ring (ps ++ qs) ≡ ring (qs ++ ps)
  unfolding ring head_or
  ring_turn [] [] = refl
  ring_turn [] (q ∷ qs) = ap (λ l. ring (q ∷ l)) (sym (append-nil qs))
  ring_turn (p ∷ ps) [] = ap (λ l. ring (p ∷ l)) (append-nil ps)
  ring_turn (p ∷ ps) (q ∷ qs) =
      path_append (p ∷ ps) (q ∷ qs) p ∙ +ℤ_comm (path (p ∷ ps) q) (path (q ∷ qs) p)
      ∙ sym (path_append (q ∷ qs) (p ∷ ps) q)

  -- the edges from i on
  path_edges : (vs : List ℤ) (n i k : ℕ) → i + k ≡ n →
      sum_from (λ j. g (vertex_at vs j) (vertex_at vs (next_of n j))) i k ≡ path (vertices_from vs i k) (vertex_at vs 0)
  unfolding sum_from path head_or vertices_from
  path_edges vs n i zero e = refl
  path_edges vs n i (suc zero) e =
      ap (λ j. g (vertex_at vs i) (vertex_at vs j) +ℤ pos 0) (next_last n i (omega arith))
  path_edges vs n i (suc (suc k)) e =
      ap₂ ◌+ℤ◌ (ap (λ j. g (vertex_at vs i) (vertex_at vs j)) (next_inner n i k e))
      (path_edges vs n (suc i) (suc k) (omega arith))

  pub ring_edges : (vs : List ℤ) → edge_sum g vs ≡ ring (points_of vs)
  unfolding path ring points_of vertex_at
  ring_edges vs =
      path_edges vs (vertices_count vs) 0 (vertices_count vs) (omega arith)
      ∙ ap (λ ps. path ps (vertex_at vs 0)) (vertices_points vs) ∙ closed vs
    where
      closed : (vs : List ℤ) → path (points_of vs) (vertex_at vs 0) ≡ ring (points_of vs)
      closed [] = refl
      closed (x ∷ []) = refl
      closed (x ∷ y ∷ []) = refl
      closed (x ∷ y ∷ z ∷ l) = refl

-- ---- a ring that starts elsewhere
thrice : (k : ℕ) → suc k * 3 ≡ suc (suc (suc (k * 3)))
thrice k = omega arith

points_drop : (k : ℕ) (vs : List ℤ) → points_of (drop (k * 3) vs) ≡ drop k (points_of vs)
unfolding points_of
points_drop zero vs = refl
points_drop (suc k) [] = rw (thrice k) refl
points_drop (suc k) (x ∷ []) = rw (thrice k) refl
points_drop (suc k) (x ∷ y ∷ []) = rw (thrice k) refl
points_drop (suc k) (x ∷ y ∷ z ∷ l) = rw (thrice k) (points_drop k l)

points_take : (k : ℕ) (vs : List ℤ) → points_of (take (k * 3) vs) ≡ take k (points_of vs)
unfolding points_of
points_take zero vs = refl
points_take (suc k) [] = rw (thrice k) refl
points_take (suc k) (x ∷ []) = rw (thrice k) refl
points_take (suc k) (x ∷ y ∷ []) = rw (thrice k) refl
points_take (suc k) (x ∷ y ∷ z ∷ l) = rw (thrice k) (ap (λ r. record { x = x; y = y; z = z } ∷ r) (points_take k l))

points_append : (us vs : List ℤ) → length us % 3 ≡ 0 → points_of (us ++ vs) ≡ points_of us ++ points_of vs
unfolding points_of
points_append [] vs h = refl
points_append (x ∷ []) vs h = absurd (omega arith)
points_append (x ∷ y ∷ []) vs h = absurd (omega arith)
points_append (x ∷ y ∷ z ∷ l) vs h = ap (λ r. record { x = x; y = y; z = z } ∷ r) (points_append l vs (omega arith))

pub started_sum : (g : Point → Point → ℤ) (vs : List ℤ) (k : ℕ) → length vs % 3 ≡ 0 → k ≤ vertices_count vs →
    edge_sum g (started_at vs k) ≡ edge_sum g vs
unfolding started_at
started_sum g vs k whole low =
    ring_edges g (drop (k * 3) vs ++ take (k * 3) vs)
    ∙ ap (ring g)
    (points_append (drop (k * 3) vs) (take (k * 3) vs) rest ∙ ap₂ ◌++◌ (points_drop k vs) (points_take k vs))
    ∙ ring_turn g (drop k (points_of vs)) (take k (points_of vs))
    ∙ ap (ring g) (take-append-drop k (points_of vs)) ∙ sym (ring_edges g vs)
  where
    left : (n : ℕ) → n % 3 ≡ 0 → k ≤ n / 3 → (n - k * 3) % 3 ≡ 0
    left n e l = omega arith

    rest : length (drop (k * 3) vs) % 3 ≡ 0
    rest = ap (λ n. n % 3) (length-drop (k * 3) vs) ∙ left (length vs) whole low

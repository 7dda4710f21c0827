-- Boxes stored one after the other, and read. Proved, in order: corner_at, corner_before (a store further on), box_at_lem,
-- box_before, stored_length, stored_each, stored_boxed, runs_fit.
use mathlib.Core.Path.{◌≡◌, refl, sym, ap, ◌∙◌}
use mathlib.Core.Logic.{⊎_elim}
use mathlib.Core.List.{List, [], ◌∷◌}
use Prim.Native.Nat.{ℕ, zero, suc, ◌+◌, ◌*◌, ◌≤◌, ◌<◌}
use native.Mathlib.Nat.{eq-or-lt_of_le}
use native.Mathlib.Omega.{arith}
use lib.IntN.{ℤ, pos}
use lib.ListN.{length, get_or, set, length-set}
use lib.Seq.{sets, length-sets, get_or-set_same, get_or-set_other}
use Rattle.sphere.specs.declared.point.Point.{Point}
use Rattle.polygon.specs.Vertices.{vertices_count, vertex_at}
use Rattle.search.specs.declared.boxes.Bounds.{Bounds}
use Rattle.search.specs.Boxes.{run_count, box_of, box_at, point_stored, box_stored, boxes_stored, Boxed}

-- ---- three numbers, stored from `at` on
module _ (l : List ℤ) (at : ℕ) (x y z : ℤ) where
  abbrev three : List ℤ
  three = sets l at (x ∷ y ∷ z ∷ [])

  three_before : (k : ℕ) → k < at → get_or three k (pos 0) ≡ get_or l k (pos 0)
  three_before k h =
      get_or-set_other (set (set l at x) (suc at) y) (suc (suc at)) k z (pos 0) (λ e. omega arith)
      ∙ get_or-set_other (set l at x) (suc at) k y (pos 0) (λ e. omega arith)
      ∙ get_or-set_other l at k x (pos 0) (λ e. omega arith)

  module _ (h : at + 3 ≤ length l) where
    three-first : get_or three at (pos 0) ≡ x
    three-first =
        get_or-set_other (set (set l at x) (suc at) y) (suc (suc at)) at z (pos 0) (λ e. omega arith)
        ∙ get_or-set_other (set l at x) (suc at) at y (pos 0) (λ e. omega arith)
        ∙ get_or-set_same l at x (pos 0) (omega arith)

    three-second : get_or three (suc at) (pos 0) ≡ y
    three-second =
        get_or-set_other (set (set l at x) (suc at) y) (suc (suc at)) (suc at) z (pos 0) (λ e. omega arith)
        ∙ get_or-set_same (set l at x) (suc at) y (pos 0) (simp length-set (omega arith))

    three_third : get_or three (suc (suc at)) (pos 0) ≡ z
    three_third =
        get_or-set_same (set (set l at x) (suc at) y) (suc (suc at)) z (pos 0) (simp length-set (omega arith))

-- ---- a point
pub corner_at : (l : List ℤ) (i at : ℕ) (p : Point) → at ≡ i * 3 → at + 3 ≤ length l →
    vertex_at (point_stored l at p) i ≡ p
unfolding vertex_at
corner_at l i at p e h = λ j. record {
  x = (at_index (i * 3) at (sym e) ∙ three-first l at p.x p.y p.z h) j;
  y = (at_index (i * 3 + 1) (suc at) (omega (arith, e)) ∙ three-second l at p.x p.y p.z h) j;
  z = (at_index (i * 3 + 2) (suc (suc at)) (omega (arith, e)) ∙ three_third l at p.x p.y p.z h) j;
}
  where
    at_index : (k m : ℕ) → k ≡ m → get_or (point_stored l at p) k (pos 0) ≡ get_or (point_stored l at p) m (pos 0)
    at_index k m q = ap (λ k. get_or (point_stored l at p) k (pos 0)) q

pub corner_before : (l : List ℤ) (i at : ℕ) (p : Point) → i * 3 + 3 ≤ at →
    vertex_at (point_stored l at p) i ≡ vertex_at l i
unfolding vertex_at
corner_before l i at p h = λ j. record {
  x = three_before l at p.x p.y p.z (i * 3) (omega arith) j;
  y = three_before l at p.x p.y p.z (i * 3 + 1) (omega arith) j;
  z = three_before l at p.x p.y p.z (i * 3 + 2) (omega arith) j;
}

point_length : (l : List ℤ) (at : ℕ) (p : Point) → length (point_stored l at p) ≡ length l
point_length l at p = length-sets l at (p.x ∷ p.y ∷ p.z ∷ [])

-- ---- a box
module _ (l : List ℤ) (r : ℕ) (b : Bounds) where
  box_length : length (box_stored l r b) ≡ length l
  unfolding box_stored
  box_length = point_length (point_stored l (r * 6) b.low) (r * 6 + 3) b.high ∙ point_length l (r * 6) b.low

  pub box_at_lem : r * 6 + 6 ≤ length l → box_at (box_stored l r b) r ≡ b
  unfolding box_at box_stored
  box_at_lem h = λ j. record { low = low j; high = high j }
    where
      first : List ℤ
      first = point_stored l (r * 6) b.low

      low : vertex_at (point_stored (point_stored l (r * 6) b.low) (r * 6 + 3) b.high) (r * 2) ≡ b.low
      low =
          corner_before (point_stored l (r * 6) b.low) (r * 2) (r * 6 + 3) b.high (omega arith)
          ∙ corner_at l (r * 2) (r * 6) b.low (omega arith) (omega arith)

      high : vertex_at (point_stored (point_stored l (r * 6) b.low) (r * 6 + 3) b.high) (r * 2 + 1) ≡ b.high
      high =
          corner_at (point_stored l (r * 6) b.low) (r * 2 + 1) (r * 6 + 3) b.high (omega arith)
          (omega (arith, point_length l (r * 6) b.low))

  pub box_before : (q : ℕ) → q < r → box_at (box_stored l r b) q ≡ box_at l q
  unfolding box_at box_stored
  box_before q h = λ j. record {
    low = before (q * 2) (omega arith) j;
    high = before (q * 2 + 1) (omega arith) j;
  }
    where
      before : (i : ℕ) → i * 3 + 3 ≤ r * 6 →
          vertex_at (point_stored (point_stored l (r * 6) b.low) (r * 6 + 3) b.high) i ≡ vertex_at l i
      before i k =
          corner_before (point_stored l (r * 6) b.low) i (r * 6 + 3) b.high (omega arith)
          ∙ corner_before l i (r * 6) b.low k

-- ---- all boxes
module _ (vs l : List ℤ) where
  pub stored_length : (m : ℕ) → length (boxes_stored vs m l) ≡ length l
  unfolding boxes_stored
  stored_length zero = refl
  stored_length (suc m) = box_length (boxes_stored vs m l) m (box_of vs m) ∙ stored_length m

  pub stored_each : (m r : ℕ) → m * 6 ≤ length l → r < m → box_at (boxes_stored vs m l) r ≡ box_of vs r
  unfolding boxes_stored
  stored_each zero r h k = absurd (omega arith)
  stored_each (suc m) r h k = ⊎_elim
      (λ e. rw e (box_at_lem (boxes_stored vs m l) m (box_of vs m) (omega (arith, stored_length m))))
      (λ earlier. box_before (boxes_stored vs m l) m (box_of vs m) r earlier ∙ stored_each m r (omega arith) earlier)
      (eq-or-lt_of_le {n = r} {m = m} (omega arith))

  pub stored_boxed : run_count (vertices_count vs) * 6 ≤ length l →
      Boxed vs (boxes_stored vs (run_count (vertices_count vs)) l)
  stored_boxed h = record {
    room = omega (arith, stored_length (run_count (vertices_count vs)));
    each = λ r k. stored_each (run_count (vertices_count vs)) r h k;
  }

-- Room for the boxes of any polygon.
pub runs_fit : (n : ℕ) → n ≤ 4096 → run_count n * 6 ≤ 768
unfolding run_count
runs_fit n h = omega arith

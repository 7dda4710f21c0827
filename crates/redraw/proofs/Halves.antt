-- A vertex M added between A and B, to every edge that joins their directions: crossings, their sum and great circles of
-- the new list, by those of the old. Proved, in order: split_sum, new_crossings, way_term, new_winding; sum_zero,
-- circles_from.
use mathlib.Core.Path.{◌≡◌, refl, sym, ◌∙◌, ap}
use mathlib.Core.Logic.{⊎_elim}
use mathlib.Core.List.{List, [], ◌∷◌}
use mathlib.Core.Bool.{Bool, true, false, not, cond, ◌&&◌, ◌||◌}
use Prim.Native.Nat.{ℕ, zero, suc, ◌+◌, ◌<◌}
use native.Mathlib.Omega.{arith}
use native.Mathlib.Nat.{eq-or-lt_of_le}
use lib.Dec.{T}
use lib.IntN.{ℤ, pos, neg_ℤ, nat_abs, ◌+ℤ◌, +ℤ_idl, +ℤ_idr, pos-+ℤ-pos, neg_ℤ-+ℤ}
use Rattle.integers.specs.Sign.{Sign, negative, nought, positive, is_zero, unit_of}
use Rattle.integers.proofs.Sign.{is, eq, gt, equal, conclude}
use Rattle.integers.proofs.Polynomial.{var}
use Rattle.integers.proofs.Identity.{◌:*◌}
use Rattle.integers.proofs.Table.{is_same_sign, same_sign, and_l, and_r}
use Rattle.sphere.specs.declared.point.Point.{Point}
use Rattle.sphere.specs.Orientation.{orientation_of}
use Rattle.sphere.specs.Direction.{is_same_direction}
use Rattle.sphere.specs.Crossing.{crossing_of, crosses_of}
use Rattle.polygon.specs.Border.{joins_of}
use Rattle.sphere.proofs.Laws.Aligned.{aligned_refl}
use Rattle.sphere.proofs.Laws.Crossing.{crossing_swap, crossing_aligned}
use Rattle.sphere.proofs.Laws.Amid.{Inner, amid_inner, front}
use Rattle.sphere.proofs.Laws.Split.{splits, crossing_split}
use Rattle.answer.specs.Search.{sum_from}
use Rattle.answer.proofs.Laws.First.{Each}
use Rattle.polygon.specs.Vertices.{vertices_count, start_of, end_of}
use Rattle.polygon.specs.Verdict.{crossings_of, winding_of}
use Rattle.polygon.proofs.Laws.Checks.{OffCircles}
use Rattle.polygon.proofs.Winding.{unit_opposite}
use Rattle.redraw.specs.Redraw.{Amid}
use Rattle.redraw.proofs.Directions.{align, same_self, joined_cases, joined_test, crosses_test, on_circle}
use Rattle.redraw.proofs.Directions.{circle_test, off→none, none→off}
use Rattle.redraw.proofs.Rings.{edge_sum, one, count_edges}
use Rattle.redraw.proofs.Counts.{sum_same}
use Rattle.redraw.proofs.Alike.{off_count}
use Rattle.redraw.proofs.Added.{with_added, halved, EdgeTerm, added_sum, share_sum, share_count}

pub inner_of : (A B M : Point) → Amid A B M → Inner A B M
inner_of A B M m = amid_inner m.some m.on m.not_start m.not_end

-- ---- an edge's crossing is its halves' sum, by any number of a sign that is 0 for none
or_cases : (a b : Bool) {Q : Type 0} → T (a || b) → (T a → Q) → (T b → Q) → Q
or_cases true b t l r = l tt
or_cases false b t l r = r t

nought_of : (s : Sign) → T (is_zero s) → s ≡ nought
nought_of negative t = absurd t
nought_of nought t = refl
nought_of positive t = absurd t

split_sum : (u : Sign → ℤ) → u nought ≡ pos 0 → (c c1 c2 : Sign) → T (splits c c1 c2) → u c1 +ℤ u c2 ≡ u c
split_sum u z c c1 c2 t = or_cases (is_zero c1 && is_same_sign c c2) (is_zero c2 && is_same_sign c c1) t
    (λ h. ap (λ n. n +ℤ u c2) (ap u (nought_of c1 (and_l (is_zero c1) _ h)) ∙ z) ∙ +ℤ_idl (u c2)
    ∙ ap u (sym (same_sign c c2 (and_r (is_zero c1) _ h))))
    (λ h. ap (λ n. u c1 +ℤ n) (ap u (nought_of c2 (and_l (is_zero c2) _ h)) ∙ z) ∙ +ℤ_idr (u c1)
    ∙ ap u (sym (same_sign c c1 (and_r (is_zero c2) _ h))))

-- The number of an edge's crossing in the sum.
abbrev way : Point → Point → Point → Point → ℤ
way X P A B = unit_of (crossing_of X P A B)

way_term : (X P : Point) → EdgeTerm neg_ℤ (way X P)
way_term X P = record {
  turned = λ A B. ap unit_of (crossing_swap X P B A) ∙ unit_opposite (crossing_of X P B A);
  aligned = λ A B C D a b. ap unit_of
      (crossing_aligned X P A B X P C D (aligned_refl X) (aligned_refl P) (align A C a) (align B D b));
}

module _ (vs : List ℤ) (A B M : Point) (m : Amid A B M) (full : 0 < vertices_count vs) where
  crossing_sum : (X P : Point) (u : Sign → ℤ) → u nought ≡ pos 0 →
      u (crossing_of X P A M) +ℤ u (crossing_of X P M B) ≡ u (crossing_of X P A B)
  crossing_sum X P u z = split_sum u z (crossing_of X P A B) (crossing_of X P A M) (crossing_of X P M B)
      (crossing_split (inner_of A B M m) X P)

  pub new_crossings : (X P : Point) → crossings_of (with_added vs A B M) X P ≡ crossings_of vs X P
  unfolding crossings_of
  new_crossings X P =
      share_count (crosses_of X P) (crosses_of X P) (crosses_test X P) (crosses_test X P) vs A B M m.some full
      (crossing_sum X P (λ s. pos (cond (not (is_zero s)) 1 0)) refl) (λ i below no. refl)

  pub new_winding : (X P : Point) → winding_of (with_added vs A B M) X P ≡ winding_of vs X P
  unfolding winding_of
  new_winding X P =
      share_sum neg_ℤ neg_ℤ-+ℤ (way X P) (way X P) (way_term X P) (way_term X P) A B M m.some
      (crossing_sum X P unit_of refl) vs full (λ i below no. refl)

-- ---- a sum of terms that are not negative
abbrev tally_from : (ℕ → ℕ) → ℕ → ℕ → ℕ
tally_from f i zero = 0
tally_from f i (suc k) = f i + tally_from f (suc i) k

sum_tally : (f : ℕ → ℕ) (i k : ℕ) → sum_from (λ j. pos (f j)) i k ≡ pos (tally_from f i k)
unfolding sum_from
sum_tally f i zero = refl
sum_tally f i (suc k) =
    ap (λ s. pos (f i) +ℤ s) (sum_tally f (suc i) k) ∙ pos-+ℤ-pos (f i) (tally_from f (suc i) k)

no_part : (a b : ℕ) → a + b ≡ 0 → (a ≡ 0) × (b ≡ 0)
no_part a b e = (omega arith, omega arith)

tally_zero : (f : ℕ → ℕ) (i k : ℕ) → tally_from f i k ≡ 0 → Each (λ j. f j ≡ 0) i k
tally_zero f i zero e j from below = absurd (omega arith)
tally_zero f i (suc k) e j from below =
    let p = no_part (f i) (tally_from f (suc i) k) e in
    ⊎_elim (λ q. rw (← q) p.0) (λ more. tally_zero f (suc i) k p.1 j more (omega arith)) (eq-or-lt_of_le from)

sum_zero : (f : ℕ → ℕ) (i k : ℕ) → sum_from (λ j. pos (f j)) i k ≡ pos 0 → Each (λ j. f j ≡ 0) i k
sum_zero f i k e = tally_zero f i k (let same : pos (tally_from f i k) ≡ pos 0 = sym (sum_tally f i k) ∙ e in ap nat_abs same)

-- ---- X off the circles of the new edges is off those of the old: a half is on the whole's circle
module _ (vs : List ℤ) (A B M X : Point) (m : Amid A B M) (full : 0 < vertices_count vs) where
  bit : Point → Point → ℕ
  bit C D = cond (on_circle X C D) 1 0

  circled : Point → Point → ℕ
  circled C D = cond (joins_of A B C D) (bit C M + bit M D) (bit C D)

  halved_bits : (C D : Point) → halved (one (on_circle X)) A B M C D ≡ pos (circled C D)
  unfolding bit circled
  halved_bits C D = go (joins_of A B C D)
    where
      go : (b : Bool) → cond b (pos (bit C M) +ℤ pos (bit M D)) (pos (bit C D))
          ≡ pos (cond b (bit C M + bit M D) (bit C D))
      go true = pos-+ℤ-pos (bit C M) (bit M D)
      go false = refl

  front_circle : on_circle X A M ≡ false → on_circle X A B ≡ false
  front_circle e = off→none A B X (λ z. none→off A M X e (conclude (var 3) eq
      (is (var 0) gt ∷ is (var 2) eq ∷ equal (var 0 :* var 3) (var 1 :* var 2) ∷ [])
      (r.k ∷ r.b ∷ orientation_of A B X ∷ orientation_of A M X ∷ []) tt r.k_positive z (front r.sum X)))
    where
      r : Inner A B M
      r = inner_of A B M m

  joined_circle : (C D : Point) → joins_of A B C D ≡ true → on_circle X C M ≡ false → on_circle X M D ≡ false →
      on_circle X C D ≡ false
  joined_circle C D j e f = sym (joined_test (on_circle X) (circle_test X) A B C D j) ∙ front_circle
      (joined_cases A B C D j (λ a b. (circle_test X).aligned A M C M a M-M ∙ e)
      (λ a b. (circle_test X).aligned A M D M a M-M ∙ (circle_test X).turned D M ∙ f))
    where
      M-M : is_same_direction M M ≡ true
      M-M = same_self M m.some

  pub circles_from : OffCircles (with_added vs A B M) X → OffCircles vs X
  unfolding bit circled
  circles_from all i below = none→off (start_of vs i) (end_of vs i) X
      (go (joins_of A B (start_of vs i) (end_of vs i)) refl
      (sum_zero (λ i. circled (start_of vs i) (end_of vs i)) 0 (vertices_count vs) none i (omega arith) (omega arith)))
    where
      none : edge_sum (λ C D. pos (circled C D)) vs ≡ pos 0
      none = sym (sum_same (λ i. halved (one (on_circle X)) A B M (start_of vs i) (end_of vs i))
          (λ i. pos (circled (start_of vs i) (end_of vs i))) 0 (vertices_count vs)
          (λ i from below. halved_bits (start_of vs i) (end_of vs i)))
          ∙ sym (added_sum (one (on_circle X)) vs A B M full) ∙ sym (count_edges (on_circle X) (with_added vs A B M))
          ∙ ap pos (off_count (with_added vs A B M) X all)

      off-one : (b : Bool) → ◌≡◌ {A = ℕ} (cond b 1 0) 0 → b ≡ false
      off-one true e = absurd (omega arith)
      off-one false e = refl

      go : (b : Bool) → joins_of A B (start_of vs i) (end_of vs i) ≡ b →
          cond b (bit (start_of vs i) M + bit M (end_of vs i)) (bit (start_of vs i) (end_of vs i)) ≡ 0 →
          on_circle X (start_of vs i) (end_of vs i) ≡ false
      go true j e = let p = no_part (bit (start_of vs i) M) (bit M (end_of vs i)) e in
          joined_circle (start_of vs i) (end_of vs i) j (off-one (on_circle X (start_of vs i) M) p.0)
          (off-one (on_circle X M (end_of vs i)) p.1)
      go false j e = off-one (on_circle X (start_of vs i) (end_of vs i)) e

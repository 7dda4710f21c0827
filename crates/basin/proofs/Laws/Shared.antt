-- The test decides whether two edges share a point. Proved, in order: held_as, level_self; shared_decided.
use mathlib.Core.Path.{◌≡◌, sym, ◌∙◌, subst}
use mathlib.Core.List.{[], ◌∷◌}
use mathlib.Core.Bool.{true, false, ◌&&◌, ◌||◌}
use lib.Dec.{T}
use lib.IntN.{ℤ, pos, ◌+ℤ◌, ◌*ℤ◌}
use lib.Signed.{◌<ℤ◌}
use Rattle.integers.specs.Sign.{sign_of, is_zero}
use Rattle.integers.proofs.Polynomial.{con, var}
use Rattle.integers.proofs.Identity.{◌:+◌, ◌:*◌, ◌:=◌}
use Rattle.integers.proofs.Sign.{is, equal, eq, ne, gt, conclude, allows_is}
use Rattle.integers.proofs.Table.{table, shown, and_l, and_r}
use Rattle.sphere.specs.declared.point.Point.{Point}
use Rattle.sphere.specs.Orientation.{orientation_of, cross_of}
use Rattle.sphere.specs.Direction.{is_parallel, is_same_direction}
use Rattle.sphere.specs.OnEdge.{OnEdge, is_on_edge}
use Rattle.sphere.proofs.Vectors.{orientation_e, vecs}
use Rattle.sphere.proofs.Laws.Aligned.{aligned_refl, same→aligned}
use Rattle.sphere.proofs.Laws.OnEdge.{on_edge_aligned}
use Rattle.sphere.proofs.Laws.Amid.{Inner, level_sum, front, back, on_edge_cases}
use Rattle.sphere.proofs.Claims.{on_edge_decided}
use Rattle.basin.specs.Shared.{Shared, meets_by, is_met, is_shared}
use Rattle.basin.specs.Claims.{SharedDecided}
use Rattle.basin.proofs.Laws.Disjunction.{or_first, or_second, or_cases, T_true}
use Rattle.basin.proofs.Laws.Meeting.{normal_off, some_start, some_end, start_on, end_on, met_shared}
use Rattle.basin.proofs.Laws.Flat.{plane_off, held_in, flat_held, inner_ends}

-- An edge that holds P holds a point in P's direction.
pub held_as : (C D P E : Point) → is_parallel C D ≡ false → OnEdge C D P → is_same_direction P E ≡ true →
    is_on_edge C D E ≡ true
held_as C D P E h r e =
    sym (on_edge_aligned C D (cross_of C D) (normal_off C D h) P C D E (aligned_refl C) (aligned_refl D)
    (same→aligned P E (subst T (sym e) tt)))
    ∙ (on_edge_decided C D P h).fractions→test r

-- A number that is a positive multiple of n has its sign.
along : (k b n m : ℤ) → pos 0 <ℤ k → pos 0 <ℤ b → (n ≡ pos 0 → ⊥) → k *ℤ m ≡ b *ℤ n → pos 0 <ℤ (m *ℤ n)
along k b n m = conclude (var 3 :* var 2) gt
    (is (var 0) gt ∷ is (var 1) gt ∷ is (var 2) ne ∷ equal (var 0 :* var 3) (var 1 :* var 2) ∷ []) (k ∷ b ∷ n ∷ m ∷ []) tt

reversed : (A B C : Point) → orientation_of A B C +ℤ orientation_of C B A ≡ pos 0
unfolding orientation_of
reversed = vecs 3 (λ a b c. orientation_e a b c :+ orientation_e c b a := con (pos 0)) tt

-- ---- P amid both edges: they cross, or are in one plane
module _ (A B C D P : Point) (h : is_parallel A B ≡ false) (g : is_parallel C D ≡ false) (f : OnEdge A B P)
    (s : OnEdge C D P) (u : Inner A B P) (v : Inner C D P) where
  crossed_or_flat : T (is_met A B C D
      || (is_zero (sign_of (orientation_of A B C)) && (is_zero (sign_of (orientation_of A B D))
      && is_zero (sign_of (orientation_of C D A)))))
  crossed_or_flat = shown (table
      (var 0 ∷ var 1 ∷ var 2 ∷ var 3 ∷ var 4 ∷ var 5 ∷ var 6 ∷ var 7 ∷ var 8 ∷ var 9 ∷ var 10 ∷ var 11 ∷ var 12
      ∷ var 13 ∷ [])
      (λ k a b k' c d o1 o2 s1 t t' s3 s2 s4. [])
      (λ k a b k' c d o1 o2 s1 t t' s3 s2 s4.
      is k gt ∷ is a gt ∷ is b gt ∷ is k' gt ∷ is c gt ∷ is d gt ∷ is o1 eq ∷ is o2 eq ∷ equal (k :* t) (b :* s1)
      ∷ equal (t :+ t') (con (pos 0)) ∷ equal (k' :* t') (d :* s3) ∷ equal (k' :* o1) (c :* s1 :+ d :* s2)
      ∷ equal (k :* o2) (a :* s3 :+ b :* s4) ∷ [])
      (λ k a b k' c d o1 o2 s1 t t' s3 s2 s4. meets_by s1 s2 s3 s4 || (is_zero s1 && (is_zero s2 && is_zero s3))))
      (u.k ∷ u.a ∷ u.b ∷ v.k ∷ v.a ∷ v.b ∷ orientation_of A B P ∷ orientation_of C D P ∷ orientation_of A B C
      ∷ orientation_of A P C ∷ orientation_of C P A ∷ orientation_of C D A ∷ orientation_of A B D ∷ orientation_of C D B
      ∷ []) tt
      u.k_positive u.a_positive u.b_positive v.k_positive v.a_positive v.b_positive f.level
      s.level (front u.sum C) (reversed A P C) (front v.sum A) (level_sum v.sum A B) (level_sum u.sum C D)

  flat_shared : orientation_of A B C ≡ pos 0 → orientation_of A B D ≡ pos 0 → orientation_of C D A ≡ pos 0 →
      is_shared A B C D ≡ true
  unfolding is_shared
  flat_shared c d a =
      or_cases (held_in W A B C) (held_in W A B D || held_in W C D A) (inner_ends A B C D P W nAB nCD
      (along u.k u.b (orientation_of A B W) (orientation_of A P W) u.k_positive u.b_positive nAB
      (front u.sum W))
      (along u.k u.a (orientation_of A B W) (orientation_of P B W) u.k_positive u.a_positive nAB
      (back u.sum W))
      (along v.k v.b (orientation_of C D W) (orientation_of C P W) v.k_positive v.b_positive nCD
      (front v.sum W))
      (along v.k v.a (orientation_of C D W) (orientation_of P D W) v.k_positive v.a_positive nCD
      (back v.sum W)))
      (λ t. or_first (is_on_edge A B C || is_on_edge A B D) _ (or_first (is_on_edge A B C) _ (flat_held A B C W nAB c t)))
      (λ t. or_cases (held_in W A B D) (held_in W C D A) t
      (λ t. or_first (is_on_edge A B C || is_on_edge A B D) _ (or_second (is_on_edge A B C) _ (flat_held A B D W nAB d t)))
      (λ t. or_second (is_on_edge A B C || is_on_edge A B D) _ (or_first (is_on_edge C D A || is_on_edge C D B) _
      (or_first (is_on_edge C D A) _ (flat_held C D A W nCD a t)))))
    where
      W : Point
      W = cross_of A B

      nAB : orientation_of A B W ≡ pos 0 → ⊥
      nAB = normal_off A B h

      nCD : orientation_of C D W ≡ pos 0 → ⊥
      nCD = plane_off A B C D h g c d

  amid_both : is_shared A B C D ≡ true
  unfolding is_shared
  amid_both = or_cases (is_met A B C D) _ crossed_or_flat
      (λ t. or_second (is_on_edge A B C || is_on_edge A B D) _ (or_second (is_on_edge C D A || is_on_edge C D B) _
      (T_true (is_met A B C D) t)))
      (λ t. let rest = and_r (is_zero (sign_of (orientation_of A B C))) _ t in
      flat_shared (allows_is eq (orientation_of A B C) (and_l (is_zero (sign_of (orientation_of A B C))) _ t))
      (allows_is eq (orientation_of A B D) (and_l (is_zero (sign_of (orientation_of A B D))) _ rest))
      (allows_is eq (orientation_of C D A) (and_r (is_zero (sign_of (orientation_of A B D))) _ rest)))

-- ---- both ways
module _ (A B C D : Point) (h : is_parallel A B ≡ false) (g : is_parallel C D ≡ false) where
  on : (A B P : Point) → is_parallel A B ≡ false → T (is_on_edge A B P) → OnEdge A B P
  on A B P h t = (on_edge_decided A B P h).test→fractions (T_true (is_on_edge A B P) t)

  to_share : is_shared A B C D ≡ true → Shared A B C D
  unfolding is_shared
  to_share e = or_cases (is_on_edge A B C || is_on_edge A B D) _ (subst T (sym e) tt)
      (λ t. or_cases (is_on_edge A B C) _ t
      (λ t. record { point = C; some = some_start C D g; first = on A B C h t; second = start_on C D })
      (λ t. record { point = D; some = some_end C D g; first = on A B D h t; second = end_on C D }))
      (λ t. or_cases (is_on_edge C D A || is_on_edge C D B) _ t
      (λ t. or_cases (is_on_edge C D A) _ t
      (λ t. record { point = A; some = some_start A B h; first = start_on A B; second = on C D A g t })
      (λ t. record { point = B; some = some_end A B h; first = end_on A B; second = on C D B g t }))
      (met_shared A B C D h))

  to_test : Shared A B C D → is_shared A B C D ≡ true
  unfolding is_shared
  to_test s = on_edge_cases s.some s.first
      (λ e. or_second (is_on_edge A B C || is_on_edge A B D) _ (or_first (is_on_edge C D A || is_on_edge C D B) _
      (or_first (is_on_edge C D A) _ (held_as C D s.point A g s.second e))))
      (λ e. or_second (is_on_edge A B C || is_on_edge A B D) _ (or_first (is_on_edge C D A || is_on_edge C D B) _
      (or_second (is_on_edge C D A) _ (held_as C D s.point B g s.second e))))
      (λ u. on_edge_cases s.some s.second
      (λ e. or_first (is_on_edge A B C || is_on_edge A B D) _ (or_first (is_on_edge A B C) _
      (held_as A B s.point C h s.first e)))
      (λ e. or_first (is_on_edge A B C || is_on_edge A B D) _ (or_second (is_on_edge A B C) _
      (held_as A B s.point D h s.first e)))
      (amid_both A B C D s.point h g s.first s.second u))

pub shared_decided : SharedDecided
shared_decided A B C D h g = record { test→share = to_share A B C D h g; share→test = to_test A B C D h g }

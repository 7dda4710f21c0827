-- The test decides whether neighbours share more than their common vertex. Proved: level_self, beyond_decided.
use mathlib.Core.Path.{◌≡◌, sym, ◌∙◌, subst}
use mathlib.Core.List.{[], ◌∷◌}
use mathlib.Core.Bool.{true, false, true≢false}
use lib.Dec.{T}
use lib.IntN.{pos, ◌*ℤ◌}
use lib.Signed.{◌<ℤ◌}
use Rattle.integers.proofs.Polynomial.{con, var, neg}
use Rattle.integers.proofs.Identity.{◌:+◌, ◌:*◌, ◌:=◌}
use Rattle.integers.proofs.Sign.{is, equal, eq, ne, gt, lt, conclude}
use Rattle.sphere.specs.declared.point.Point.{Point}
use Rattle.sphere.specs.Orientation.{orientation_of, cross_of}
use Rattle.sphere.specs.Direction.{is_parallel, is_same_direction}
use Rattle.sphere.specs.OnEdge.{OnEdge, is_on_edge}
use Rattle.sphere.proofs.Vectors.{orientation_e, vecs}
use Rattle.sphere.proofs.Laws.Orientation.{orientation_cycle, orientation_swap}
use Rattle.polygon.proofs.Laws.Joined.{same_sym}
use Rattle.sphere.proofs.Laws.Amid.{Inner, level_sum, front, back, on_edge_cases}
use Rattle.sphere.proofs.Claims.{on_edge_decided}
use Rattle.basin.specs.Shared.{SharedBeyond, is_shared_beyond}
use Rattle.basin.specs.Claims.{BeyondDecided}
use Rattle.basin.proofs.Laws.Disjunction.{or_first, or_second, or_cases, T_true}
use Rattle.basin.proofs.Laws.Meeting.{normal_off, some_start, some_end, start_on, end_on}
use Rattle.basin.proofs.Laws.Flat.{plane_off, held_in, flat_held, beyond_ends}
use Rattle.basin.proofs.Laws.Shared.{held_as}

-- The ends of an edge lie in its plane.
pub level_self : (A B : Point) → orientation_of A B B ≡ pos 0
unfolding orientation_of
level_self = vecs 2 (λ a b. orientation_e a b b := con (pos 0)) tt

module _ (U M W : Point) (h : is_parallel U M ≡ false) (g : is_parallel M W ≡ false) where
  apart : (A B : Point) → is_parallel A B ≡ false → is_same_direction A B ≡ false
  unfolding is_same_direction
  apart A B h = rw h

  to_beyond : is_shared_beyond U M W ≡ true → SharedBeyond U M W
  unfolding is_shared_beyond
  to_beyond e = or_cases (is_on_edge U M W) _ (subst T (sym e) tt)
      (λ t. record {
        point = W;
        some = some_end M W g;
        first = (on_edge_decided U M W h).test→fractions (T_true (is_on_edge U M W) t);
        second = end_on M W;
        beyond = same_sym W M ∙ apart M W g;
      })
      (λ t. record {
        point = U;
        some = some_start U M h;
        first = start_on U M;
        second = (on_edge_decided M W U g).test→fractions (T_true (is_on_edge M W U) t);
        beyond = apart U M h;
      })

  -- ---- P amid both: all in one plane, with U and W to one side of M
  module _ (P : Point) (f : OnEdge U M P) (u : Inner U M P) (v : Inner M W P) where
    N : Point
    N = cross_of U M

    out : orientation_of U M N ≡ pos 0 → ⊥
    unfolding N
    out = normal_off U M h

    level : orientation_of U M W ≡ pos 0
    level = conclude (var 5) eq
        (is (var 0) gt ∷ is (var 1) gt ∷ is (var 2) gt ∷ is (var 3) eq ∷ is (var 4) eq
        ∷ equal (var 0 :* var 3) (var 1 :* var 4 :+ var 2 :* var 5) ∷ [])
        (v.k ∷ v.a ∷ v.b ∷ orientation_of U M P ∷ orientation_of U M M ∷ orientation_of U M W ∷ []) tt v.k_positive
        v.a_positive v.b_positive f.level (level_self U M) (level_sum v.sum U M)

    out-too : orientation_of M W N ≡ pos 0 → ⊥
    unfolding N
    out-too = plane_off U M M W h g (level_self U M) level

    one_side : (orientation_of U M N *ℤ orientation_of M W N) <ℤ pos 0
    one_side = conclude (var 4 :* var 5) lt
        (is (var 0) gt ∷ is (var 1) gt ∷ is (var 2) gt ∷ is (var 3) gt ∷ is (var 4) ne ∷ is (var 5) ne
        ∷ equal (var 0 :* var 6) (var 1 :* var 4) ∷ equal (var 2 :* var 7) (var 3 :* var 5)
        ∷ equal (var 6) (neg (var 7)) ∷ [])
        (u.k ∷ u.a ∷ v.k ∷ v.b ∷ orientation_of U M N ∷ orientation_of M W N ∷ orientation_of P M N
        ∷ orientation_of M P N ∷ [])
        tt u.k_positive u.a_positive v.k_positive v.b_positive out out-too (back u.sum N)
        (front v.sum N) (orientation_swap P M N)

    amid_both : is_shared_beyond U M W ≡ true
    unfolding is_shared_beyond
    amid_both = or_cases (held_in N U M W) (held_in N M W U) (beyond_ends U M W N one_side)
        (λ t. or_first (is_on_edge U M W) _ (flat_held U M W N out level t))
        (λ t. or_second (is_on_edge U M W) _ (flat_held M W U N out-too (sym (orientation_cycle U M W) ∙ level) t))

  from_beyond : SharedBeyond U M W → is_shared_beyond U M W ≡ true
  unfolding is_shared_beyond
  from_beyond s = on_edge_cases s.some s.first
      (λ e. or_second (is_on_edge U M W) _ (held_as M W s.point U g s.second e))
      (λ e. absurd (true≢false (sym e ∙ s.beyond)))
      (λ u. on_edge_cases s.some s.second
      (λ e. absurd (true≢false (sym e ∙ s.beyond)))
      (λ e. or_first (is_on_edge U M W) _ (held_as U M s.point W h s.first e))
      (amid_both s.point s.first u))

pub beyond_decided : BeyondDecided
beyond_decided U M W h g = record { test→share = to_beyond U M W h g; share→test = from_beyond U M W h g }

-- An edge that lies on the other side of a plane through X than the query. Proved, in order: clear_not_crossed,
-- clear_not_on (a plane with normal N).
use mathlib.Core.Path.{◌≡◌, ◌∙◌}
use mathlib.Core.List.{[], ◌∷◌}
use mathlib.Core.Bool.{false, beq}
use lib.IntN.{pos}
use lib.Signed.{◌<ℤ◌, ◌≤ℤ◌}
use Rattle.integers.specs.Sign.{nought}
use Rattle.integers.proofs.Identity.{◌:+◌, ◌:-◌, ◌:*◌}
use Rattle.integers.proofs.Sign.{is, eq, ne, lt, ge}
use Rattle.integers.proofs.Table.{table, same_bool, is_same_sign, same_sign}
use Rattle.sphere.specs.declared.point.Point.{Point}
use Rattle.sphere.specs.Orientation.{orientation_of, dot_of}
use Rattle.sphere.specs.Crossing.{crossing_by, crossing_of}
use Rattle.sphere.specs.OnEdge.{is_on_edge, on_edge_by}
use Rattle.sphere.proofs.Vectors.{orientation_e, dot_e, vecs_table}
use Rattle.sphere.proofs.Laws.OnEdge.{is_on_by, on_edge_by_lem}

-- ---- by Cramer's rule for A, B, P and X: A [P B X] - P [A B X] + B [A P X] = X [A P B]
module _ (X N P A B : Point) (through : dot_of N X ≡ pos 0) (hA : pos 0 ≤ℤ dot_of N A) (hB : pos 0 ≤ℤ dot_of N B)
    (hP : dot_of N P <ℤ pos 0) where
  pub clear_not_crossed : crossing_of X P A B ≡ nought
  unfolding crossing_of orientation_of dot_of
  clear_not_crossed = same_sign (crossing_of X P A B) nought (vecs_table 5 (λ x n p a b. table
      (dot_e n x ∷ dot_e n a ∷ dot_e n b ∷ dot_e n p ∷ orientation_e x p a ∷ orientation_e x p b ∷ orientation_e a b x
      ∷ orientation_e a b p ∷ [])
      (λ nX nA nB nP s1 s2 s3 s4. nA :* s2 :- nB :* s1 :- nP :* s3 :+ nX :* s4 ∷ [])
      (λ nX nA nB nP s1 s2 s3 s4. is nX eq ∷ is nA ge ∷ is nB ge ∷ is nP lt ∷ [])
      (λ nX nA nB nP s1 s2 s3 s4. is_same_sign (crossing_by s1 s2 s3 s4) nought)) tt X N P A B through hA hB hP)

  module _ (off : orientation_of A B X ≡ pos 0 → ⊥) where
    on-by : is_on_by X A B P ≡ false
    unfolding is_on_by orientation_of dot_of
    on-by = same_bool (is_on_by X A B P) false (vecs_table 5 (λ x n p a b. table
        (dot_e n x ∷ dot_e n a ∷ dot_e n b ∷ dot_e n p ∷ orientation_e a b x ∷ orientation_e a p x ∷ orientation_e p b x
        ∷ orientation_e a b p ∷ [])
        (λ nX nA nB nP oX aP bP oP. nA :* bP :+ nB :* aP :- nP :* oX :+ nX :* oP ∷ [])
        (λ nX nA nB nP oX aP bP oP. is nX eq ∷ is nA ge ∷ is nB ge ∷ is nP lt ∷ is oX ne ∷ [])
        (λ nX nA nB nP oX aP bP oP. beq (on_edge_by oP oX aP bP) false)) tt X N P A B through hA hB hP off)

    pub clear_not_on : is_on_edge A B P ≡ false
    clear_not_on = on_edge_by_lem A B P X off ∙ on-by

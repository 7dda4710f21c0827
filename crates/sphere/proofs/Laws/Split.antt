-- A point M between the ends of an edge A B: the edge is crossed where one of its halves is, and holds what one of them
-- holds. Defined: splits. Proved, in order: crossing_split; front_off, back_off, on_edge_split. What makes M such a
-- point: Laws/Amid.
use mathlib.Core.Path.{◌≡◌, sym, ◌∙◌, ap, ap₂}
use mathlib.Core.List.{[], ◌∷◌}
use mathlib.Core.Bool.{Bool, ◌&&◌, ◌||◌, beq}
use lib.Dec.{T}
use lib.IntN.{ℤ, pos, neg_ℤ, ◌+ℤ◌, ◌*ℤ◌}
use lib.Signed.{◌<ℤ◌}
use Rattle.integers.specs.Sign.{Sign, is_zero}
use Rattle.integers.proofs.Polynomial.{var, neg}
use Rattle.integers.proofs.Identity.{◌:+◌, ◌:*◌, ◌:=◌}
use Rattle.integers.proofs.Sign.{is, equal, ne, gt, conclude}
use Rattle.integers.proofs.Table.{table, shown, same_bool, is_same_sign}
use Rattle.sphere.specs.declared.point.Point.{Point}
use Rattle.sphere.specs.Orientation.{orientation_of}
use Rattle.sphere.specs.Crossing.{crossing_by, crossing_of}
use Rattle.sphere.specs.OnEdge.{on_edge_by, is_on_edge}
use Rattle.sphere.proofs.Vectors.{orientation_e, vecs}
use Rattle.sphere.proofs.Laws.Orientation.{orientation_cycle, orientation_swap}
use Rattle.sphere.proofs.Laws.OnEdge.{is_on_by, on_edge_by_lem}
use Rattle.sphere.proofs.Laws.Amid.{Inner, level_sum, front, back}

-- One of the halves has the whole's crossing, and the other has none.
abbrev pub splits : Sign → Sign → Sign → Bool
splits c c1 c2 = (is_zero c1 && is_same_sign c c2) || (is_zero c2 && is_same_sign c c1)

turned : (A B C : Point) → orientation_of A B C ≡ neg_ℤ (orientation_of C B A)
unfolding orientation_of
turned = vecs 3 (λ a b c. orientation_e a b c := neg (orientation_e c b a)) tt

module _ {A B M : Point} (r : Inner A B M) where
  pub crossing_split : (X P : Point) → T (splits (crossing_of X P A B) (crossing_of X P A M) (crossing_of X P M B))
  unfolding crossing_of
  crossing_split X P = shown (table
      (var 0 ∷ var 1 ∷ var 2 ∷ var 3 ∷ var 4 ∷ var 5 ∷ var 6 ∷ var 7 ∷ var 8 ∷ var 9 ∷ var 10 ∷ var 11 ∷ [])
      (λ k a b s1 s2 sM nX nP fX fP bX bP. [])
      (λ k a b s1 s2 sM nX nP fX fP bX bP.
      is k gt ∷ is a gt ∷ is b gt ∷ equal (k :* sM) (a :* s1 :+ b :* s2)
      ∷ equal (k :* fX) (b :* nX) ∷ equal (k :* fP) (b :* nP) ∷ equal (k :* bX) (a :* nX) ∷ equal (k :* bP) (a :* nP)
      ∷ [])
      (λ k a b s1 s2 sM nX nP fX fP bX bP.
      splits (crossing_by s1 s2 nX nP) (crossing_by s1 sM fX fP) (crossing_by sM s2 bX bP)))
      (r.k ∷ r.a ∷ r.b ∷ orientation_of X P A ∷ orientation_of X P B ∷ orientation_of X P M ∷ orientation_of A B X
      ∷ orientation_of A B P ∷ orientation_of A M X ∷ orientation_of A M P ∷ orientation_of M B X ∷ orientation_of M B P
      ∷ [])
      tt r.k_positive r.a_positive r.b_positive (level_sum r.sum X P)
      (front r.sum X) (front r.sum P) (back r.sum X) (back r.sum P)

  -- ---- a point Q on one of the halves, told by a vector W out of the edge's plane
  module _ (W : Point) (off : orientation_of A B W ≡ pos 0 → ⊥) where
    scaled-off : (k b h : ℤ) → pos 0 <ℤ k → pos 0 <ℤ b → k *ℤ h ≡ b *ℤ orientation_of A B W → h ≡ pos 0 → ⊥
    scaled-off k b h hk hb e = conclude (var 3) ne
        (is (var 0) gt ∷ is (var 1) gt ∷ is (var 2) ne ∷ equal (var 0 :* var 3) (var 1 :* var 2) ∷ [])
        (k ∷ b ∷ orientation_of A B W ∷ h ∷ []) tt hk hb off e

    pub front_off : orientation_of A M W ≡ pos 0 → ⊥
    front_off = scaled-off r.k r.b (orientation_of A M W) r.k_positive r.b_positive
        (front r.sum W)

    pub back_off : orientation_of M B W ≡ pos 0 → ⊥
    back_off = scaled-off r.k r.a (orientation_of M B W) r.k_positive r.a_positive
        (back r.sum W)

    -- k [Q M W] = b [Q B W] - a [A Q W]
    middle : (Q : Point) → r.k *ℤ orientation_of Q M W
        ≡ r.a *ℤ neg_ℤ (orientation_of A Q W) +ℤ r.b *ℤ orientation_of Q B W
    middle Q = ap (λ n. r.k *ℤ n) (orientation_cycle Q M W ∙ orientation_cycle M W Q) ∙ level_sum r.sum W Q
        ∙ ap₂ (λ m n. r.a *ℤ m +ℤ r.b *ℤ n) (turned W Q A) (orientation_cycle W Q B)

    by-split : (Q : Point) → is_on_by W A B Q ≡ (is_on_by W A M Q || is_on_by W M B Q)
    unfolding is_on_by
    by-split Q = same_bool _ _ (shown (table
        (var 0 ∷ var 1 ∷ var 2 ∷ var 3 ∷ var 4 ∷ var 5 ∷ var 6 ∷ var 7 ∷ var 8 ∷ var 9 ∷ var 10 ∷ var 11 ∷ var 12 ∷ [])
        (λ k a b n o u w qm mq fQ fW bQ bW. [])
        (λ k a b n o u w qm mq fQ fW bQ bW.
        is k gt ∷ is a gt ∷ is b gt ∷ is n ne ∷ equal (k :* qm) (a :* neg u :+ b :* w)
        ∷ equal (k :* fQ) (b :* o) ∷ equal (k :* fW) (b :* n) ∷ equal (k :* bQ) (a :* o) ∷ equal (k :* bW) (a :* n)
        ∷ equal mq (neg qm) ∷ [])
        (λ k a b n o u w qm mq fQ fW bQ bW.
        beq (on_edge_by o n u w) (on_edge_by fQ fW u qm || on_edge_by bQ bW mq w)))
        (r.k ∷ r.a ∷ r.b ∷ orientation_of A B W ∷ orientation_of A B Q ∷ orientation_of A Q W ∷ orientation_of Q B W
        ∷ orientation_of Q M W ∷ orientation_of M Q W ∷ orientation_of A M Q ∷ orientation_of A M W ∷ orientation_of M B Q
        ∷ orientation_of M B W ∷ [])
        tt r.k_positive r.a_positive r.b_positive off (middle Q) (front r.sum Q) (front r.sum W)
        (back r.sum Q) (back r.sum W) (orientation_swap M Q W))

    pub on_edge_split : (Q : Point) → is_on_edge A B Q ≡ (is_on_edge A M Q || is_on_edge M B Q)
    on_edge_split Q = on_edge_by_lem A B Q W off ∙ by-split Q
        ∙ sym (λ i. on_edge_by_lem A M Q W front_off i || on_edge_by_lem M B Q W back_off i)

-- Tests of edges that go by directions: more of polygon's Laws/Directions. Proved, in order: crosses_test, circle_test;
-- off→none, none→off; joined_on.
use mathlib.Core.Path.{◌≡◌, refl, sym, ◌∙◌, ap}
use mathlib.Core.Bool.{Bool, true, false, true≢false}
use lib.IntN.{pos, neg_ℤ}
use Rattle.integers.specs.Sign.{Sign, negative, nought, positive, sign_of, is_zero, opposite}
use Rattle.integers.proofs.Sign.{eq, allows_is, sign_of_neg}
use Rattle.sphere.specs.declared.point.Point.{Point}
use Rattle.sphere.specs.Orientation.{orientation_of}
use Rattle.sphere.specs.Crossing.{crosses_of}
use Rattle.sphere.specs.OnEdge.{is_on_edge}
use Rattle.polygon.specs.Border.{joins_of}
use Rattle.sphere.proofs.Laws.Orientation.{orientation_swap}
use Rattle.sphere.proofs.Laws.Aligned.{aligned_refl, aligned_sign}
use Rattle.sphere.proofs.Laws.Crossing.{crosses_swap, crosses_aligned}
use Rattle.sphere.proofs.Laws.OnEdge.{on_edge_swap, on_edge_aligned}
pub use Rattle.polygon.proofs.Laws.Directions.{align, same_back, same_self, EdgeTest, joined_cases, joined_test}
pub use Rattle.polygon.proofs.Laws.Directions.{joins_test}

pub crosses_test : (X P : Point) → EdgeTest (crosses_of X P)
crosses_test X P = record {
  turned = crosses_swap X P;
  aligned = λ A B C D a b.
      crosses_aligned X P A B X P C D (aligned_refl X) (aligned_refl P) (align A C a) (align B D b);
}

-- X is on the edge's great circle.
abbrev pub on_circle : Point → Point → Point → Bool
on_circle X A B = is_zero (sign_of (orientation_of A B X))

zero_opposite : (s : Sign) → is_zero (opposite s) ≡ is_zero s
zero_opposite negative = refl
zero_opposite nought = refl
zero_opposite positive = refl

pub circle_test : (X : Point) → EdgeTest (on_circle X)
circle_test X = record {
  turned = λ A B. ap (λ n. is_zero (sign_of n)) (orientation_swap A B X) ∙ ap is_zero (sign_of_neg (orientation_of B A X))
      ∙ zero_opposite (sign_of (orientation_of B A X));
  aligned = λ A B C D a b. ap is_zero (aligned_sign A C B D X X (align A C a) (align B D b) (aligned_refl X));
}

pub off→none : (A B X : Point) → (orientation_of A B X ≡ pos 0 → ⊥) → on_circle X A B ≡ false
off→none A B X off = go (on_circle X A B) refl
  where
    go : (b : Bool) → on_circle X A B ≡ b → b ≡ false
    go true e = absurd (off (allows_is eq (orientation_of A B X) (rw e tt)))
    go false e = refl

pub none→off : (A B X : Point) → on_circle X A B ≡ false → orientation_of A B X ≡ pos 0 → ⊥
none→off A B X h e = true≢false (sym (ap (λ n. is_zero (sign_of n)) e) ∙ h)

-- An edge holds what one that joins the same two directions holds, if X is off its circle.
pub joined_on : (A B C D X P : Point) → (orientation_of A B X ≡ pos 0 → ⊥) → joins_of A B C D ≡ true →
    is_on_edge A B P ≡ is_on_edge C D P
joined_on A B C D X P off j = joined_cases A B C D j
    (λ a b. on_edge_aligned A B X off P C D P (align A C a) (align B D b) (aligned_refl P))
    (λ a b. on_edge_swap A B X off P ∙ on_edge_aligned B A X (λ e. off (orientation_swap A B X ∙ ap neg_ℤ e)) P C D P
    (align B C b) (align A D a) (aligned_refl P))

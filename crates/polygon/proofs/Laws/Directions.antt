-- Points of one direction, and tests of edges that go by directions. Proved, in order: align, same_back, same_self,
-- same_right, same_left (a point is as good as another of its direction). Defined: EdgeTest (a test that knows only the
-- two directions). Proved, in order: joined_cases, joined_test; joins_test; class_same, border_same (edges that join the
-- same two directions are border together).
use mathlib.Core.Path.{◌≡◌, refl, sym, ◌∙◌, ap, subst, fun_ext}
use mathlib.Core.List.{List, [], ◌∷◌}
use mathlib.Core.Bool.{Bool, true, false, ◌&&◌, ◌||◌, beq, true≢false}
use Prim.Native.Nat.{ℕ, ◌%◌}
use lib.Dec.{T, eqb}
use lib.IntN.{ℤ, pos, ◌*ℤ◌}
use lib.Signed.{◌<ℤ◌}
use Rattle.integers.specs.Sign.{sign_of, is_zero, is_positive}
use Rattle.integers.proofs.Polynomial.{var}
use Rattle.integers.proofs.Identity.{◌:+◌, ◌:-◌, ◌:*◌, ◌:=◌}
use Rattle.integers.proofs.Sign.{is, equal, gt, allows_is}
use Rattle.integers.proofs.Table.{table, shown, same_bool, and_l, and_r}
use Rattle.sphere.specs.declared.point.Point.{Point}
use Rattle.sphere.specs.Point.{is_null, origin}
use Rattle.sphere.specs.Orientation.{cross_of, dot_of}
use Rattle.sphere.specs.Direction.{is_same_direction}
use Rattle.sphere.proofs.Vectors.{cross_e, dot_e, vecs, vecs_table}
use Rattle.sphere.proofs.Laws.Orientation.{null→origin, up_to, dot_comm, dot_positive, positive_ne}
use Rattle.sphere.proofs.Laws.Aligned.{Aligned, same→aligned}
use Rattle.sphere.proofs.Laws.Amid.{some_positive}
use Rattle.answer.specs.Search.{count_from}
use Rattle.polygon.specs.Vertices.{vertices_count, start_of, end_of}
use Rattle.polygon.specs.Border.{joins_of, is_coincident, coincident_of, is_border}
use Rattle.polygon.proofs.Laws.Joined.{same_sym, joins_sym, joins_back}

true-T : {b : Bool} → b ≡ true → T b
true-T e = subst T (sym e) tt

pub align : (A B : Point) → is_same_direction A B ≡ true → Aligned A B
align A B h = same→aligned A B (true-T h)

pub same_back : (A B : Point) → is_same_direction A B ≡ true → is_same_direction B A ≡ true
same_back A B e = sym (same_sym A B) ∙ e

-- A vector is null exactly if its square is 0.
null_square : (n : Point) → is_null n ≡ is_zero (sign_of (dot_of n n))
unfolding is_null dot_of
null_square n = same_bool (is_null n) (is_zero (sign_of (dot_of n n))) (vecs_table 1 (λ n. table
    (n.x ∷ n.y ∷ n.z ∷ dot_e n n ∷ [])
    (λ x y z q. (x :* x :+ y :* y :+ z :* z) :- q ∷ [])
    (λ x y z q. [])
    (λ x y z q. beq (is_zero x && (is_zero y && is_zero z)) (is_zero q))) tt n)

-- So a direction is told by two products.
same_by : (A B : Point) → is_same_direction A B
    ≡ (is_zero (sign_of (dot_of (cross_of A B) (cross_of A B))) && is_positive (sign_of (dot_of A B)))
unfolding is_same_direction
same_by A B = ap (λ b. b && is_positive (sign_of (dot_of A B))) (null_square (cross_of A B))

pub same_self : (M : Point) → is_null M ≡ false → is_same_direction M M ≡ true
unfolding is_same_direction is_null cross_of dot_of
same_self M some = same_bool (is_same_direction M M) true (vecs_table 1 (λ a. table
    ((cross_e a a).x ∷ (cross_e a a).y ∷ (cross_e a a).z ∷ dot_e a a ∷ [])
    (λ x y z q. x ∷ y ∷ z ∷ [])
    (λ x y z q. is q gt ∷ [])
    (λ x y z q. beq ((is_zero x && (is_zero y && is_zero z)) && is_positive q) true)) tt M (some_positive M some))

-- ---- (A-as-A) B = (A-as-B) A where A and B have one direction
module _ (A B : Point) (h : is_same_direction A B ≡ true) where
  line : cross_of A B ≡ origin
  unfolding is_same_direction
  line = null→origin (cross_of A B) (and_l (is_null (cross_of A B)) _ (true-T h))

  ahead : pos 0 <ℤ dot_of A B
  unfolding is_same_direction
  ahead = allows_is gt (dot_of A B) (and_r (is_null (cross_of A B)) _ (true-T h))

  square : pos 0 <ℤ dot_of A A
  square = dot_positive B A (λ e. positive_ne ahead (dot_comm A B ∙ e))

  dots : (C : Point) → dot_of A A *ℤ dot_of C B ≡ dot_of A B *ℤ dot_of C A
  unfolding cross_of dot_of
  dots C = up_to A B line (cross_of A C) (vecs 3 (λ a b c. dot_e a a :* dot_e c b
      := dot_e a b :* dot_e c a :+ dot_e (cross_e a c) (cross_e a b)) tt A B C)

  -- the component of C×B along D
  crosses : (C D : Point) → dot_of A A *ℤ dot_of D (cross_of C B) ≡ dot_of A B *ℤ dot_of D (cross_of C A)
  unfolding cross_of dot_of
  crosses C D = up_to A B line (cross_of A (cross_of D C)) (vecs 4 (λ a b c d.
      dot_e a a :* dot_e d (cross_e c b) := dot_e a b :* dot_e d (cross_e c a)
      :+ dot_e (cross_e a (cross_e d c)) (cross_e a b)) tt A B C D)

  pub same_right : (C : Point) → is_same_direction C A ≡ is_same_direction C B
  same_right C = same_by C A ∙ same_bool _ _ (shown (table
      (var 0 ∷ var 1 ∷ var 2 ∷ var 3 ∷ var 4 ∷ var 5 ∷ var 6 ∷ [])
      (λ k m n w n' q q'. [])
      (λ k m n w n' q q'. is k gt ∷ is m gt ∷ equal (k :* w) (m :* n) ∷ equal (k :* n') (m :* w)
      ∷ equal (k :* q') (m :* q) ∷ [])
      (λ k m n w n' q q'. beq (is_zero n && is_positive q) (is_zero n' && is_positive q')))
      (dot_of A A ∷ dot_of A B ∷ dot_of old old ∷ dot_of old new ∷ dot_of new new ∷ dot_of C A ∷ dot_of C B ∷ []) tt
      square ahead (crosses C old) (crosses C new ∙ ap (λ w. dot_of A B *ℤ w) (dot_comm new old)) (dots C))
      ∙ sym (same_by C B)
    where
      old : Point
      old = cross_of C A

      new : Point
      new = cross_of C B

  pub same_left : (C : Point) → is_same_direction A C ≡ is_same_direction B C
  same_left C = same_sym A C ∙ same_right C ∙ same_sym C B

-- ---- tests of edges by their directions, whichever way they are walked
pub record EdgeTest (f : Point → Point → Bool) : Type 0 where
  pub turned : (A B : Point) → f A B ≡ f B A
  pub aligned : (A B C D : Point) → is_same_direction A C ≡ true → is_same_direction B D ≡ true → f A B ≡ f C D

-- What joins_of says: the ends pair off, one way or the other.
pub joined_cases : (A B C D : Point) {Q : Type 0} → joins_of A B C D ≡ true →
    (is_same_direction A C ≡ true → is_same_direction B D ≡ true → Q) →
    (is_same_direction A D ≡ true → is_same_direction B C ≡ true → Q) → Q
unfolding joins_of
joined_cases A B C D {Q} j straight crossed =
    go (is_same_direction A C) (is_same_direction B D) (is_same_direction A D) (is_same_direction B C) refl refl refl refl j
  where
    go : (a b c d : Bool) → is_same_direction A C ≡ a → is_same_direction B D ≡ b → is_same_direction A D ≡ c →
        is_same_direction B C ≡ d → ((a && b) || (c && d)) ≡ true → Q
    go true true c d p q r s e = straight p q
    go true false true true p q r s e = crossed r s
    go true false true false p q r s e = absurd (true≢false (sym e))
    go true false false d p q r s e = absurd (true≢false (sym e))
    go false b true true p q r s e = crossed r s
    go false b true false p q r s e = absurd (true≢false (sym e))
    go false b false d p q r s e = absurd (true≢false (sym e))

pub joined_test : (f : Point → Point → Bool) → EdgeTest f → (A B C D : Point) → joins_of A B C D ≡ true →
    f A B ≡ f C D
joined_test f t A B C D j =
    joined_cases A B C D j (λ a b. t.aligned A B C D a b) (λ a b. t.aligned A B D C a b ∙ t.turned D C)

pub joins_test : (U W : Point) → EdgeTest (joins_of U W)
unfolding joins_of
joins_test U W = record {
  turned = λ A B. sym (joins_back U W A B);
  aligned = λ A B C D a b i.
      (same_right A C a U i && same_right B D b W i) || (same_right B D b U i && same_right A C a W i);
}

-- ---- the edges that join two directions
pub class_same : (vs : List ℤ) (A B C D : Point) → joins_of C D A B ≡ true → coincident_of vs A B ≡ coincident_of vs C D
unfolding coincident_of
class_same vs A B C D j =
    ap (λ t. count_from t 0 (vertices_count vs)) (fun_ext (λ i. joined (start_of vs i) (end_of vs i)))
  where
    joined : (U W : Point) → joins_of A B U W ≡ joins_of C D U W
    joined U W = joins_sym A B U W ∙ sym (joined_test (joins_of U W) (joins_test U W) C D A B j) ∙ joins_sym U W C D

pub border_same : (vs : List ℤ) (i j : ℕ) → is_coincident vs (start_of vs i) (end_of vs i) j ≡ true →
    is_border vs j ≡ is_border vs i
unfolding is_border
border_same vs i j e =
    ap (λ (k : ℕ). eqb (k % 2) 1) (class_same vs (start_of vs j) (end_of vs j) (start_of vs i) (end_of vs i) e)

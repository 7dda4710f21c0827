-- What the sides say on which a query and the ends of an edge lie. Defined, in order: Unnoticed, sides. Proved, in
-- order: clear_unnoticed, left_left, left_right, right_right, right_left; positive_sign, negative_sign. Defined: Way
-- (how an edge is crossed). Proved, in order: way_left, way_right.
use mathlib.Core.Path.{◌≡◌, refl, ◌∙◌}
use mathlib.Core.Bool.{Bool, true, false, cond, ◌&&◌, beq}
use mathlib.Core.List.{List, [], ◌∷◌}
use Prim.Native.Nat.{zero, suc}
use lib.Dec.{T, leb-suc-zero}
use lib.IntN.{ℤ, pos, negsuc}
use lib.Signed.{◌<ℤ◌}
use Rattle.integers.specs.Sign.{negative, nought, positive, sign_of}
use Rattle.integers.proofs.Polynomial.{Expr}
use Rattle.integers.proofs.Identity.{◌:+◌, ◌:-◌}
use Rattle.integers.proofs.Sign.{Fact, is, lt, gt}
use Rattle.integers.proofs.Table.{Table, table, same_bool, is_same_sign, same_sign, and_l, and_r}
use Rattle.sphere.specs.declared.point.Point.{Point}
use Rattle.sphere.specs.Orientation.{orientation_of}
use Rattle.sphere.specs.Crossing.{crossing_by, crossing_of}
use Rattle.sphere.specs.OnEdge.{is_on_edge, on_edge_by}
use Rattle.sphere.proofs.Vectors.{Vector, orientation_e, vecs_table}
use Rattle.sphere.proofs.Laws.OnEdge.{is_on_by, on_edge_by_lem}
use Rattle.azimuths.specs.Sectors.{way_by}

-- ---- an edge that a query does not notice, by n = [A B X], s1 = [X P A] and s2 = [X P B]
abbrev pub Unnoticed : Point → Point → Point → Point → Type 0
Unnoticed X P A B = (crossing_of X P A B ≡ nought) × (is_on_edge A B P ≡ false)

abbrev sides : (Expr → Expr → Expr → List Fact) → Vector → Vector → Vector → Vector → Table
sides facts x p a b = table
    (orientation_e a b x ∷ orientation_e x p a ∷ orientation_e x p b ∷ orientation_e a b p ∷ orientation_e a p x
    ∷ orientation_e p b x ∷ [])
    (λ n s1 s2 s4 aP bP. s1 :+ aP ∷ s2 :- bP ∷ [])
    (λ n s1 s2 s4 aP bP. facts n s1 s2)
    (λ n s1 s2 s4 aP bP. is_same_sign (crossing_by s1 s2 n s4) nought && beq (on_edge_by s4 n aP bP) false)

module _ (X P A B : Point) (off : orientation_of A B X ≡ pos 0 → ⊥) where
  clear_unnoticed : T (is_same_sign (crossing_of X P A B) nought && beq (is_on_by X A B P) false) → Unnoticed X P A B
  clear_unnoticed t =
      let uncrossed = is_same_sign (crossing_of X P A B) nought in
      let on = beq (is_on_by X A B P) false in (
        same_sign (crossing_of X P A B) nought (and_l uncrossed on t),
        on_edge_by_lem A B P X off ∙ same_bool (is_on_by X A B P) false (and_r uncrossed on t),
      )

  -- it turns left, and its start is on the left of the arc or its end on the right
  pub left_left : pos 0 <ℤ orientation_of A B X → pos 0 <ℤ orientation_of X P A → Unnoticed X P A B
  unfolding crossing_of is_on_by orientation_of
  left_left n s =
      clear_unnoticed (vecs_table 4 (sides (λ n s1 s2. is n gt ∷ is s1 gt ∷ [])) tt X P A B n s)

  pub left_right : pos 0 <ℤ orientation_of A B X → orientation_of X P B <ℤ pos 0 → Unnoticed X P A B
  unfolding crossing_of is_on_by orientation_of
  left_right n s =
      clear_unnoticed (vecs_table 4 (sides (λ n s1 s2. is n gt ∷ is s2 lt ∷ [])) tt X P A B n s)

  -- it turns right, and the other way round
  pub right_right : orientation_of A B X <ℤ pos 0 → orientation_of X P A <ℤ pos 0 → Unnoticed X P A B
  unfolding crossing_of is_on_by orientation_of
  right_right n s =
      clear_unnoticed (vecs_table 4 (sides (λ n s1 s2. is n lt ∷ is s1 lt ∷ [])) tt X P A B n s)

  pub right_left : orientation_of A B X <ℤ pos 0 → pos 0 <ℤ orientation_of X P B → Unnoticed X P A B
  unfolding crossing_of is_on_by orientation_of
  right_left n s =
      clear_unnoticed (vecs_table 4 (sides (λ n s1 s2. is n lt ∷ is s2 gt ∷ [])) tt X P A B n s)

-- ---- an edge whose ends the arc parts, by the side of it on which the query is
positive_sign : (z : ℤ) → pos 0 <ℤ z → sign_of z ≡ positive
positive_sign (pos zero) h = absurd h.lt
positive_sign (pos (suc n)) h = refl
positive_sign (negsuc n) h = absurd h.lt

negative_sign : (z : ℤ) → z <ℤ pos 0 → sign_of z ≡ negative
negative_sign (pos zero) h = absurd h.lt
negative_sign (pos (suc n)) h = absurd (rw (leb-suc-zero (suc n)) at h.lt)
negative_sign (negsuc n) h = refl

module _ (X P A B : Point) where
  -- by whether the reference point is on its left
  abbrev pub Way : Bool → Type 0
  Way l = (left : Bool) → sign_of (orientation_of A B P) ≡ cond left positive negative → crossing_of X P A B ≡ way_by l left

  pub way_left : pos 0 <ℤ orientation_of A B X → orientation_of X P A <ℤ pos 0 → pos 0 <ℤ orientation_of X P B → Way true
  unfolding crossing_of
  way_left n s t true e = rw (positive_sign _ n, negative_sign _ s, positive_sign _ t, e)
  way_left n s t false e = rw (positive_sign _ n, negative_sign _ s, positive_sign _ t, e)

  pub way_right : orientation_of A B X <ℤ pos 0 → pos 0 <ℤ orientation_of X P A → orientation_of X P B <ℤ pos 0 → Way false
  unfolding crossing_of
  way_right n s t true e = rw (negative_sign _ n, positive_sign _ s, negative_sign _ t, e)
  way_right n s t false e = rw (negative_sign _ n, positive_sign _ s, negative_sign _ t, e)

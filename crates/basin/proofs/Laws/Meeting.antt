-- From the test to a shared point: an end of an edge, or where two edges cross. Proved, in order: normal_off,
-- some_start, some_end, start_on, end_on (of an edge whose ends are not parallel); met_shared.
use mathlib.Core.Path.{◌≡◌, sym, ◌∙◌, ap}
use mathlib.Core.List.{[], ◌∷◌}
use mathlib.Core.Bool.{Bool, false, ◌&&◌, true≢false}
use lib.Dec.{T}
use lib.IntN.{ℤ, pos, neg_ℤ, ◌+ℤ◌, ◌-ℤ◌, ◌*ℤ◌, +ℤ_comm}
use lib.Signed.{◌<ℤ◌, ◌≤ℤ◌}
use Rattle.integers.specs.Sign.{sign_of, is_negative, is_positive}
use Rattle.integers.proofs.Polynomial.{con, var, neg}
use Rattle.integers.proofs.Identity.{◌:+◌, ◌:-◌, ◌:*◌, ◌:=◌, ints}
use Rattle.integers.proofs.Sign.{is, equal, ne, gt, ge, lt, allows_is, conclude}
use Rattle.integers.proofs.Table.{and_l, and_r}
use Rattle.sphere.specs.declared.point.Point.{Point}
use Rattle.sphere.specs.Point.{is_null}
use Rattle.sphere.specs.Orientation.{orientation_of, cross_of}
use Rattle.sphere.specs.Direction.{is_parallel}
use Rattle.sphere.specs.OnEdge.{OnEdge}
use Rattle.sphere.proofs.Vectors.{Vector, orientation_e, vecs}
use Rattle.sphere.proofs.Laws.Orientation.{normal_zero, off→some, orientation_swap}
use Rattle.basin.specs.Shared.{Shared, is_met}
use Rattle.basin.proofs.Laws.Disjunction.{or_cases}

-- ---- an edge whose ends are not parallel
pub normal_off : (A B : Point) → is_parallel A B ≡ false → orientation_of A B (cross_of A B) ≡ pos 0 → ⊥
normal_off A B h e = true≢false (sym (normal_zero A B e) ∙ h)

pub some_start : (A B : Point) → is_parallel A B ≡ false → is_null A ≡ false
some_start A B h = off→some A B (cross_of A B) (normal_off A B h)

pub some_end : (A B : Point) → is_parallel A B ≡ false → is_null B ≡ false
some_end A B h = off→some B A (cross_of A B) (λ e. normal_off A B h (orientation_swap A B (cross_of A B) ∙ ap neg_ℤ e))

on_swap : {A B P : Point} → OnEdge A B P → OnEdge B A P
on_swap {A} {B} {P} r = record {
  level = orientation_swap B A P ∙ ap neg_ℤ r.level;
  k = r.k;
  a = r.b;
  b = r.a;
  k_positive = r.k_positive;
  a_fraction = r.b_fraction;
  b_fraction = r.a_fraction;
  at_x = r.at_x ∙ +ℤ_comm (r.a *ℤ A.x) (r.b *ℤ B.x);
  at_y = r.at_y ∙ +ℤ_comm (r.a *ℤ A.y) (r.b *ℤ B.y);
  at_z = r.at_z ∙ +ℤ_comm (r.a *ℤ A.z) (r.b *ℤ B.z);
}

pub start_on : (A B : Point) → OnEdge A B A
unfolding orientation_of
start_on A B = record {
  level = vecs 2 (λ a b. orientation_e a b a := con (pos 0)) tt A B;
  k = pos 1;
  a = pos 1;
  b = pos 0;
  k_positive = allows_is gt (pos 1) tt;
  a_fraction = allows_is ge (pos 1) tt;
  b_fraction = allows_is ge (pos 0) tt;
  at_x = one A.x B.x;
  at_y = one A.y B.y;
  at_z = one A.z B.z;
}
  where
    one : (x y : ℤ) → pos 1 *ℤ x ≡ pos 1 *ℤ x +ℤ pos 0 *ℤ y
    one = ints 2 (λ x y. con (pos 1) :* x := con (pos 1) :* x :+ con (pos 0) :* y) tt

pub end_on : (A B : Point) → OnEdge A B B
end_on A B = on_swap (start_on B A)

-- ---- where the arcs cross: s2 C - s1 D = s3 B - s4 A, by the four orientations
abbrev meet_e : Vector → Vector → Vector → Vector → Vector
meet_e a b c d = record {
  x = orientation_e a b d :* c.x :- orientation_e a b c :* d.x;
  y = orientation_e a b d :* c.y :- orientation_e a b c :* d.y;
  z = orientation_e a b d :* c.z :- orientation_e a b c :* d.z;
}

module _ (A B C D : Point) (p1 : orientation_of A B C <ℤ pos 0) (p2 : pos 0 <ℤ orientation_of A B D)
    (p3 : pos 0 <ℤ orientation_of C D A) (p4 : orientation_of C D B <ℤ pos 0) where
  meet : Point
  meet = record {
    x = orientation_of A B D *ℤ C.x -ℤ orientation_of A B C *ℤ D.x;
    y = orientation_of A B D *ℤ C.y -ℤ orientation_of A B C *ℤ D.y;
    z = orientation_of A B D *ℤ C.z -ℤ orientation_of A B C *ℤ D.z;
  }

  weak : (n : ℤ) → pos 0 <ℤ n → pos 0 ≤ℤ n
  weak n = conclude (var 0) ge (is (var 0) gt ∷ []) (n ∷ []) tt

  turned : (n : ℤ) → n <ℤ pos 0 → pos 0 ≤ℤ neg_ℤ n
  turned n = conclude (neg (var 0)) ge (is (var 0) lt ∷ []) (n ∷ []) tt

  meet_second : OnEdge C D meet
  unfolding meet orientation_of
  meet_second = record {
    level = vecs 4 (λ a b c d. orientation_e c d (meet_e a b c d) := con (pos 0)) tt A B C D;
    k = pos 1;
    a = orientation_of A B D;
    b = neg_ℤ (orientation_of A B C);
    k_positive = allows_is gt (pos 1) tt;
    a_fraction = weak (orientation_of A B D) p2;
    b_fraction = turned (orientation_of A B C) p1;
    at_x = part C.x D.x;
    at_y = part C.y D.y;
    at_z = part C.z D.z;
  }
    where
      part : (x y : ℤ) → pos 1 *ℤ (orientation_of A B D *ℤ x -ℤ orientation_of A B C *ℤ y)
          ≡ orientation_of A B D *ℤ x +ℤ neg_ℤ (orientation_of A B C) *ℤ y
      part x y = ints 4 (λ s2 s1 x y. con (pos 1) :* (s2 :* x :- s1 :* y) := s2 :* x :+ neg s1 :* y) tt
          (orientation_of A B D) (orientation_of A B C) x y

  meet_first : OnEdge A B meet
  unfolding meet orientation_of
  meet_first = record {
    level = vecs 4 (λ a b c d. orientation_e a b (meet_e a b c d) := con (pos 0)) tt A B C D;
    k = pos 1;
    a = neg_ℤ (orientation_of C D B);
    b = orientation_of C D A;
    k_positive = allows_is gt (pos 1) tt;
    a_fraction = turned (orientation_of C D B) p4;
    b_fraction = weak (orientation_of C D A) p3;
    at_x = vecs 4 (λ a b c d. con (pos 1) :* (meet_e a b c d).x
        := neg (orientation_e c d b) :* a.x :+ orientation_e c d a :* b.x) tt A B C D;
    at_y = vecs 4 (λ a b c d. con (pos 1) :* (meet_e a b c d).y
        := neg (orientation_e c d b) :* a.y :+ orientation_e c d a :* b.y) tt A B C D;
    at_z = vecs 4 (λ a b c d. con (pos 1) :* (meet_e a b c d).z
        := neg (orientation_e c d b) :* a.z :+ orientation_e c d a :* b.z) tt A B C D;
  }

  -- A × meet = s3 (A × B), and so it is not null
  seen : (W : Point) → orientation_of A meet W ≡ orientation_of C D A *ℤ orientation_of A B W
  unfolding meet orientation_of
  seen W = vecs 5 (λ a b c d w. orientation_e a (meet_e a b c d) w := orientation_e c d a :* orientation_e a b w) tt A B C D W

  meet_shared : is_parallel A B ≡ false → Shared A B C D
  meet_shared h = record {
    point = meet;
    some = off→some meet A W (λ z. out (orientation_swap A meet W ∙ ap neg_ℤ z));
    first = meet_first;
    second = meet_second;
  }
    where
      W : Point
      W = cross_of A B

      out : orientation_of A meet W ≡ pos 0 → ⊥
      out z = conclude (var 0 :* var 1) ne (is (var 0) gt ∷ is (var 1) ne ∷ [])
          (orientation_of C D A ∷ orientation_of A B W ∷ []) tt p3 (normal_off A B h) (sym (seen W) ∙ z)

-- ---- by the signs: the second pattern is the first with C and D exchanged
four : (a b c d : Bool) → T (a && (b && (c && d))) → T a × T b × T c × T d
four a b c d t =
    let u = and_r a (b && (c && d)) t in
    let v = and_r b (c && d) u in (and_l a (b && (c && d)) t, and_l b (c && d) u, and_l c d v, and_r c d v)

exchanged : {A B C D : Point} → Shared A B D C → Shared A B C D
exchanged s = record { point = s.point; some = s.some; first = s.first; second = on_swap s.second }

pub met_shared : (A B C D : Point) → is_parallel A B ≡ false → T (is_met A B C D) → Shared A B C D
met_shared A B C D h t = or_cases
    (is_negative (sign_of s1) && (is_positive (sign_of s2) && (is_positive (sign_of s3) && is_negative (sign_of s4)))) _ t
    (λ p. let f = four (is_negative (sign_of s1)) (is_positive (sign_of s2)) (is_positive (sign_of s3)) _ p in
    meet_shared A B C D (allows_is lt s1 f.0) (allows_is gt s2 f.1) (allows_is gt s3 f.2)
    (allows_is lt s4 f.3) h)
    (λ p. let f = four (is_positive (sign_of s1)) (is_negative (sign_of s2)) (is_negative (sign_of s3)) _ p in
    exchanged (meet_shared A B D C (allows_is lt s2 f.1) (allows_is gt s1 f.0)
    (up (orientation_of D C A) s3 (allows_is lt s3 f.2) (orientation_swap D C A))
    (down (orientation_of D C B) s4 (allows_is gt s4 f.3) (orientation_swap D C B)) h))
  where
    s1 : ℤ
    s1 = orientation_of A B C

    s2 : ℤ
    s2 = orientation_of A B D

    s3 : ℤ
    s3 = orientation_of C D A

    s4 : ℤ
    s4 = orientation_of C D B

    up : (m n : ℤ) → n <ℤ pos 0 → m ≡ neg_ℤ n → pos 0 <ℤ m
    up m n = conclude (var 0) gt (is (var 1) lt ∷ equal (var 0) (neg (var 1)) ∷ []) (m ∷ n ∷ []) tt

    down : (m n : ℤ) → pos 0 <ℤ n → m ≡ neg_ℤ n → m <ℤ pos 0
    down m n = conclude (var 0) lt (is (var 1) gt ∷ equal (var 0) (neg (var 1)) ∷ []) (m ∷ n ∷ []) tt

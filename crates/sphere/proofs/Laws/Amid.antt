-- A point as a sum of the ends of an edge. Defined, in order: Summed (k M = a A + b B), Inner (with k, a and b all
-- positive: M is amid the edge). Proved, in order: some_positive; level_sum, front, back (the orientations with M, by
-- those with A and B); start_hit, end_hit (where a factor is 0, M is at an end); on_summed, on_edge_cases (a point on an
-- edge is at an end or amid it), amid_inner.
use mathlib.Core.Path.{◌≡◌, sym, ◌∙◌}
use mathlib.Core.List.{List, [], ◌∷◌}
use mathlib.Core.Bool.{true, false, ◌&&◌, ◌||◌, beq, true≢false}
use lib.Dec.{T}
use lib.IntN.{ℤ, pos, ◌+ℤ◌, ◌*ℤ◌, +ℤ_comm, ℤ_discrete}
use lib.Signed.{◌<ℤ◌, ◌≤ℤ◌}
use Rattle.integers.specs.Sign.{is_zero, is_positive}
use Rattle.integers.proofs.Polynomial.{Expr, con, var, eval, same}
use Rattle.integers.proofs.Identity.{◌:+◌, ◌:-◌, ◌:*◌}
use Rattle.integers.proofs.Sign.{is, equal, eq, ne, gt, ge, allows_is, conclude}
use Rattle.integers.proofs.Infer.{Hyp, by, combo, combine}
use Rattle.integers.proofs.Table.{table, shown, same_bool, unless}
use Rattle.sphere.specs.declared.point.Point.{Point}
use Rattle.sphere.specs.Point.{is_null}
use Rattle.sphere.specs.Orientation.{orientation_of, cross_of, dot_of}
use Rattle.sphere.specs.Direction.{is_same_direction}
use Rattle.sphere.specs.OnEdge.{OnEdge}
use Rattle.sphere.proofs.Vectors.{Vector, vec, flat, orientation_e, cross_e, dot_e, at_vecs}

-- k M = a A + b B.
pub record Summed (A B M : Point) (k a b : ℤ) : Type 0 where
  pub at_x : k *ℤ M.x ≡ a *ℤ A.x +ℤ b *ℤ B.x
  pub at_y : k *ℤ M.y ≡ a *ℤ A.y +ℤ b *ℤ B.y
  pub at_z : k *ℤ M.z ≡ a *ℤ A.z +ℤ b *ℤ B.z

-- And all three are positive.
pub record Inner (A B M : Point) : Type 0 where
  pub k : ℤ
  pub a : ℤ
  pub b : ℤ
  pub k_positive : pos 0 <ℤ k
  pub a_positive : pos 0 <ℤ a
  pub b_positive : pos 0 <ℤ b
  pub sum : Summed A B M k a b

pub some_positive : (M : Point) → is_null M ≡ false → pos 0 <ℤ dot_of M M
unfolding is_null dot_of
some_positive M h = allows_is gt (dot_of M M) (unless (is_null M) _ h (shown (table
    (var 0 ∷ var 1 ∷ var 2 ∷ (var 0 :* var 0 :+ var 1 :* var 1 :+ var 2 :* var 2) ∷ [])
    (λ x y z q. (x :* x :+ y :* y :+ z :* z) :- q ∷ [])
    (λ x y z q. [])
    (λ x y z q. (is_zero x && (is_zero y && is_zero z)) || is_positive q)) (M.x ∷ M.y ∷ M.z ∷ []) tt))

module _ {A B M : Point} {k a b : ℤ} (s : Summed A B M k a b) where
  -- the numbers k, a, b as one more vector of the environment, and two more points
  factors : Point
  factors = record { x = k; y = a; z = b }

  env : Point → Point → List ℤ
  env X P = flat (A ∷ B ∷ M ∷ factors ∷ X ∷ P ∷ [])

  -- the three equations, with the factors c
  axes : Vector → List Hyp
  axes c = at_vecs 4 0 (λ a b p m.
      by c.x (m.x :* p.x) (m.y :* a.x :+ m.z :* b.x)
      ∷ by c.y (m.x :* p.y) (m.y :* a.y :+ m.z :* b.y)
      ∷ by c.z (m.x :* p.z) (m.y :* a.z :+ m.z :* b.z)
      ∷ [])

  follows : (X P : Point) (c : Vector) (e f : Expr) → T (same (e :- f) (combo (axes c))) →
      eval e (env X P) ≡ eval f (env X P)
  unfolding axes env factors
  follows X P c e f t = combine e f (axes c) (env X P) t (s.at_x, (s.at_y, (s.at_z, tt)))

  -- ---- the orientations with M, by those with A and B
  pub level_sum : (X P : Point) → k *ℤ orientation_of X P M ≡ a *ℤ orientation_of X P A +ℤ b *ℤ orientation_of X P B
  unfolding orientation_of env factors axes
  level_sum X P = follows X P (cross_e (vec 4) (vec 5)) ((vec 3).x :* orientation_e (vec 4) (vec 5) (vec 2))
      ((vec 3).y :* orientation_e (vec 4) (vec 5) (vec 0) :+ (vec 3).z :* orientation_e (vec 4) (vec 5) (vec 1)) tt

  pub front : (X : Point) → k *ℤ orientation_of A M X ≡ b *ℤ orientation_of A B X
  unfolding orientation_of env factors axes
  front X = follows X X (cross_e (vec 4) (vec 0)) ((vec 3).x :* orientation_e (vec 0) (vec 2) (vec 4))
      ((vec 3).z :* orientation_e (vec 0) (vec 1) (vec 4)) tt

  pub back : (X : Point) → k *ℤ orientation_of M B X ≡ a *ℤ orientation_of A B X
  unfolding orientation_of env factors axes
  back X = follows X X (cross_e (vec 1) (vec 4)) ((vec 3).x :* orientation_e (vec 2) (vec 1) (vec 4))
      ((vec 3).y :* orientation_e (vec 0) (vec 1) (vec 4)) tt

  -- ---- a = 0: M has the direction of B
  pub end_hit : pos 0 <ℤ k → pos 0 ≤ℤ b → is_null M ≡ false → a ≡ pos 0 → is_same_direction M B ≡ true
  unfolding is_same_direction is_null cross_of dot_of env factors axes
  end_hit hk hb some z = same_bool (is_same_direction M B) true (shown (table
      (var 0 ∷ var 1 ∷ var 2 ∷ var 3 ∷ var 4 ∷ var 5 ∷ var 6 ∷ var 7 ∷ var 8 ∷ var 9 ∷ var 10 ∷ var 11 ∷ [])
      (λ k a b mm am bm cx cy cz nx ny nz. [])
      (λ k a b mm am bm cx cy cz nx ny nz.
      is k gt ∷ is a eq ∷ is b ge ∷ is mm gt ∷ equal (k :* mm) (a :* am :+ b :* bm)
      ∷ equal (k :* cx) (a :* nx) ∷ equal (k :* cy) (a :* ny) ∷ equal (k :* cz) (a :* nz) ∷ [])
      (λ k a b mm am bm cx cy cz nx ny nz. beq ((is_zero cx && (is_zero cy && is_zero cz)) && is_positive bm) true))
      (k ∷ a ∷ b ∷ dot_of M M ∷ dot_of A M ∷ dot_of M B ∷ (cross_of M B).x ∷ (cross_of M B).y ∷ (cross_of M B).z
      ∷ (cross_of A B).x ∷ (cross_of A B).y ∷ (cross_of A B).z ∷ []) tt
      hk z hb (some_positive M some)
      (follows M M vm (vk.x :* dot_e vm vm) (vk.y :* dot_e va vm :+ vk.z :* dot_e vm vb) tt)
      (follows M M (record { x = con (pos 0); y = vb.z; z = con (pos 0) :- vb.y })
      (vk.x :* (cross_e vm vb).x) (vk.y :* (cross_e va vb).x) tt)
      (follows M M (record { x = con (pos 0) :- vb.z; y = con (pos 0); z = vb.x })
      (vk.x :* (cross_e vm vb).y) (vk.y :* (cross_e va vb).y) tt)
      (follows M M (record { x = vb.y; y = con (pos 0) :- vb.x; z = con (pos 0) })
      (vk.x :* (cross_e vm vb).z) (vk.y :* (cross_e va vb).z) tt))
    where
      va : Vector
      va = vec 0

      vb : Vector
      vb = vec 1

      vm : Vector
      vm = vec 2

      vk : Vector
      vk = vec 3

-- ---- the ends exchanged
summed_swap : {A B M : Point} {k a b : ℤ} → Summed A B M k a b → Summed B A M k b a
summed_swap {A} {B} {M} {k} {a} {b} s = record {
  at_x = s.at_x ∙ +ℤ_comm (a *ℤ A.x) (b *ℤ B.x);
  at_y = s.at_y ∙ +ℤ_comm (a *ℤ A.y) (b *ℤ B.y);
  at_z = s.at_z ∙ +ℤ_comm (a *ℤ A.z) (b *ℤ B.z);
}

pub start_hit : {A B M : Point} {k a b : ℤ} → Summed A B M k a b → pos 0 <ℤ k → pos 0 ≤ℤ a → is_null M ≡ false →
    b ≡ pos 0 → is_same_direction M A ≡ true
start_hit s = end_hit (summed_swap s)

-- ---- a point on an edge
pub on_summed : {A B P : Point} (r : OnEdge A B P) → Summed A B P r.k r.a r.b
on_summed r = record { at_x = r.at_x; at_y = r.at_y; at_z = r.at_z }

-- A fraction that is not 0.
above : (n : ℤ) → pos 0 ≤ℤ n → (n ≡ pos 0 → ⊥) → pos 0 <ℤ n
above n = conclude (var 0) gt (is (var 0) ge ∷ is (var 0) ne ∷ []) (n ∷ []) tt

-- It is at the start, at the end, or amid the edge.
pub on_edge_cases : {A B P : Point} {Q : Type 0} → is_null P ≡ false → OnEdge A B P →
    (is_same_direction P A ≡ true → Q) → (is_same_direction P B ≡ true → Q) → (Inner A B P → Q) → Q
on_edge_cases {A} {B} {P} {Q} some r start end inner = go (ℤ_discrete r.a (pos 0)) (ℤ_discrete r.b (pos 0))
  where
    go : Dec (r.a ≡ pos 0) → Dec (r.b ≡ pos 0) → Q
    go (yes e) d = end (end_hit (on_summed r) r.k_positive r.b_fraction some e)
    go (no e) (yes f) = start (start_hit (on_summed r) r.k_positive r.a_fraction some f)
    go (no e) (no f) = inner (record {
      k = r.k;
      a = r.a;
      b = r.b;
      k_positive = r.k_positive;
      a_positive = above r.a r.a_fraction e;
      b_positive = above r.b r.b_fraction f;
      sum = on_summed r;
    })

pub amid_inner : {A B M : Point} → is_null M ≡ false → OnEdge A B M → is_same_direction M A ≡ false →
    is_same_direction M B ≡ false → Inner A B M
amid_inner some r not_start not_end =
    on_edge_cases some r (λ e. absurd (true≢false (sym e ∙ not_start))) (λ e. absurd (true≢false (sym e ∙ not_end)))
    (λ i. i)

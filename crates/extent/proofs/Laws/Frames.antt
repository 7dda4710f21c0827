-- The three axes, each one way or the other. Proved, in order: more_left, more_right, more_one; sized, rotated (of
-- Greatest); frame_x, frame_y, frame_z.
use mathlib.Core.Path.{◌≡◌, refl, ◌∙◌, ap}
use mathlib.Core.Logic.{◌⊎◌, inl, inr, ⊎_elim}
use mathlib.Core.Bool.{Bool, true, false, cond}
use Prim.Native.Nat.{ℕ, ◌*◌, ◌≤◌}
use native.Mathlib.Nat.{le_refl, le_trans, le_of_eq}
use native.Mathlib.Omega.{arith}
use borrow.Author.Tests.{ltb-true, ltb-false}
use lib.Dec.{ltb, leb→le}
use lib.IntN.{ℤ, pos, negsuc, neg_ℤ, nat_abs, ◌*ℤ◌}
use Rattle.integers.proofs.Size.{nat_abs_mul}
use Rattle.integers.proofs.Polynomial.{con, neg}
use Rattle.integers.proofs.Identity.{◌:+◌, ◌:*◌, ◌:=◌, ints}
use Rattle.sphere.specs.declared.point.Point.{Point}
use Rattle.sphere.specs.Point.{Fits, Within}
use Rattle.sphere.specs.Orientation.{dot_of}
use Rattle.separation.specs.Axes.{more_of, greatest}
use Rattle.extent.specs.Sides.{axis}
use Rattle.separation.specs.Axes.{Greatest, Frame}

more_left : (m n : ℕ) → m ≤ more_of m n
more_left m n = go (ltb m n) refl
  where
    go : (t : Bool) → ltb m n ≡ t → m ≤ cond t n m
    go true e = let h = ltb-true m n e in omega arith
    go false e = le_refl m

more_right : (m n : ℕ) → n ≤ more_of m n
more_right m n = go (ltb m n) refl
  where
    go : (t : Bool) → ltb m n ≡ t → n ≤ cond t n m
    go true e = le_refl n
    go false e = ltb-false m n e

more_one : (m n : ℕ) → (m ≡ more_of m n) ⊎ (n ≡ more_of m n)
more_one m n = go (ltb m n)
  where
    go : (t : Bool) → (m ≡ cond t n m) ⊎ (n ≡ cond t n m)
    go true = inr refl
    go false = inl refl

pub greatest_sizes : (P : Point) → Greatest (greatest P) P.x P.y P.z
unfolding greatest
greatest_sizes P =
    let x = nat_abs P.x in
    let y = nat_abs P.y in
    let z = nat_abs P.z in
    let r = more_right x (more_of y z) in
    record {
      at_e = more_left x (more_of y z);
      at_d = le_trans (more_left y z) r;
      at_f = le_trans (more_right y z) r;
      one = ⊎_elim (λ q. inl q)
          (λ q. ⊎_elim (λ w. inr (inl (w ∙ q))) (λ w. inr (inr (w ∙ q))) (more_one y z)) (more_one x (more_of y z));
    }

sized : {m : ℕ} {e d f a b c : ℤ} → nat_abs a ≡ nat_abs e → nat_abs b ≡ nat_abs d → nat_abs c ≡ nat_abs f →
    Greatest m e d f → Greatest m a b c
sized p q r g = record {
  at_e = le_trans (le_of_eq p) g.at_e;
  at_d = le_trans (le_of_eq q) g.at_d;
  at_f = le_trans (le_of_eq r) g.at_f;
  one = ⊎_elim (λ w. inl (p ∙ w)) (λ o. ⊎_elim (λ w. inr (inl (q ∙ w))) (λ w. inr (inr (r ∙ w))) o) g.one;
}

rotated : {m : ℕ} {e d f : ℤ} → Greatest m e d f → Greatest m d f e
rotated g = record {
  at_e = g.at_d;
  at_d = g.at_f;
  at_f = g.at_e;
  one = ⊎_elim (λ w. inr (inr w)) (λ o. ⊎_elim (λ w. inl w) (λ w. inr (inl w)) o) g.one;
}

-- ---- dot products with the axes
dot_x : (s : ℤ) (P : Point) → dot_of (axis s (pos 0) (pos 0)) P ≡ s *ℤ P.x
unfolding dot_of
dot_x s P = ints 4 (λ s x y z. s :* x :+ con (pos 0) :* y :+ con (pos 0) :* z := s :* x) tt s P.x P.y P.z

dot_y : (s : ℤ) (P : Point) → dot_of (axis (pos 0) s (pos 0)) P ≡ s *ℤ P.y
unfolding dot_of
dot_y s P = ints 4 (λ s x y z. con (pos 0) :* x :+ s :* y :+ con (pos 0) :* z := s :* y) tt s P.x P.y P.z

dot_z : (s : ℤ) (P : Point) → dot_of (axis (pos 0) (pos 0) s) P ≡ s *ℤ P.z
unfolding dot_of
dot_z s P = ints 4 (λ s x y z. con (pos 0) :* x :+ con (pos 0) :* y :+ s :* z := s :* z) tt s P.x P.y P.z

module _ (s : ℤ) (one : nat_abs s ≡ 1) where
  sign_size : (k : ℤ) → nat_abs (s *ℤ k) ≡ nat_abs k
  sign_size k = nat_abs_mul s k ∙ ap (λ n. n * nat_abs k) one ∙ once (nat_abs k)
    where
      once : (n : ℕ) → 1 * n ≡ n
      once n = omega arith

  size_x : (P : Point) → nat_abs (dot_of (axis s (pos 0) (pos 0)) P) ≡ nat_abs P.x
  size_x P = ap nat_abs (dot_x s P) ∙ sign_size P.x

  size_y : (P : Point) → nat_abs (dot_of (axis (pos 0) s (pos 0)) P) ≡ nat_abs P.y
  size_y P = ap nat_abs (dot_y s P) ∙ sign_size P.y

  size_z : (P : Point) → nat_abs (dot_of (axis (pos 0) (pos 0) s) P) ≡ nat_abs P.z
  size_z P = ap nat_abs (dot_z s P) ∙ sign_size P.z

  sign_fits : Fits 1 s
  sign_fits = record { within = le_of_eq one }

none_fits : Fits 1 (pos 0)
none_fits = record { within = leb→le 0 1 tt }

within_x : (s : ℤ) → nat_abs s ≡ 1 → Within 1 (axis s (pos 0) (pos 0))
within_x s one = record { at_x = sign_fits s one; at_y = none_fits; at_z = none_fits }

within_y : (s : ℤ) → nat_abs s ≡ 1 → Within 1 (axis (pos 0) s (pos 0))
within_y s one = record { at_x = none_fits; at_y = sign_fits s one; at_z = none_fits }

within_z : (s : ℤ) → nat_abs s ≡ 1 → Within 1 (axis (pos 0) (pos 0) s)
within_z s one = record { at_x = none_fits; at_y = none_fits; at_z = sign_fits s one }

module _ (s : ℤ) (one : nat_abs s ≡ 1) where
  pub frame_x : Frame (axis s (pos 0) (pos 0)) (axis (pos 0) (pos 1) (pos 0)) (axis (pos 0) (pos 0) (pos 1))
  frame_x = record {
    at_e = within_x s one;
    at_d = within_y (pos 1) refl;
    at_f = within_z (pos 1) refl;
    each = λ P. sized (size_x s one P) (size_y (pos 1) refl P) (size_z (pos 1) refl P) (greatest_sizes P);
  }

  pub frame_y : Frame (axis (pos 0) s (pos 0)) (axis (pos 0) (pos 0) (pos 1)) (axis (pos 1) (pos 0) (pos 0))
  frame_y = record {
    at_e = within_y s one;
    at_d = within_z (pos 1) refl;
    at_f = within_x (pos 1) refl;
    each = λ P. sized (size_y s one P) (size_z (pos 1) refl P) (size_x (pos 1) refl P) (rotated (greatest_sizes P));
  }

  pub frame_z : Frame (axis (pos 0) (pos 0) s) (axis (pos 1) (pos 0) (pos 0)) (axis (pos 0) (pos 1) (pos 0))
  frame_z = record {
    at_e = within_z s one;
    at_d = within_x (pos 1) refl;
    at_f = within_y (pos 1) refl;
    each = λ P.
        sized (size_z s one P) (size_x (pos 1) refl P) (size_y (pos 1) refl P) (rotated (rotated (greatest_sizes P)));
  }

pub dot_forward : (P : Point) → (dot_of (axis (pos 1) (pos 0) (pos 0)) P ≡ P.x)
    × ((dot_of (axis (pos 0) (pos 1) (pos 0)) P ≡ P.y) × (dot_of (axis (pos 0) (pos 0) (pos 1)) P ≡ P.z))
dot_forward P = (dot_x (pos 1) P ∙ one P.x, (dot_y (pos 1) P ∙ one P.y, dot_z (pos 1) P ∙ one P.z))
  where
    one : (k : ℤ) → pos 1 *ℤ k ≡ k
    one = ints 1 (λ k. con (pos 1) :* k := k) tt

pub dot_backward : (P : Point) → (dot_of (axis (negsuc 0) (pos 0) (pos 0)) P ≡ neg_ℤ P.x)
    × ((dot_of (axis (pos 0) (negsuc 0) (pos 0)) P ≡ neg_ℤ P.y)
    × (dot_of (axis (pos 0) (pos 0) (negsuc 0)) P ≡ neg_ℤ P.z))
dot_backward P =
    (dot_x (negsuc 0) P ∙ one P.x, (dot_y (negsuc 0) P ∙ one P.y, dot_z (negsuc 0) P ∙ one P.z))
  where
    one : (k : ℤ) → negsuc 0 *ℤ k ≡ neg_ℤ k
    one = ints 1 (λ k. con (negsuc 0) :* k := neg k) tt

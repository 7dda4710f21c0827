-- What a frame measures. Proved, in order: frame_dot (the frame's cross product is the reference point, some times),
-- frame_side (the cross product of two directions has the sign of their orientation), frame_level (a point without a
-- direction is level with all), east_across, north_across.
use mathlib.Core.Path.{◌≡◌, sym, ◌∙◌, ap₂, subst}
use mathlib.Core.List.{[], ◌∷◌}
use lib.Dec.{lt→ltb}
use lib.IntN.{ℤ, pos, ◌+ℤ◌, ◌-ℤ◌, ◌*ℤ◌}
use lib.Signed.{◌<ℤ◌, lt_z_yes}
use Rattle.integers.proofs.Polynomial.{var, con}
use Rattle.integers.proofs.Identity.{◌:+◌, ◌:-◌, ◌:*◌, ◌:=◌, ints}
use Rattle.integers.proofs.Sign.{is, eq, gt}
use Rattle.integers.proofs.Infer.{claim, ints_sign}
use Rattle.sphere.specs.declared.point.Point.{Point}
use Rattle.sphere.specs.Orientation.{orientation_of, cross_of, dot_of}
use Rattle.sphere.proofs.Vectors.{orientation_e, cross_e, dot_e, vecs}
use Rattle.sphere.proofs.Laws.Orientation.{dot_comm}
use Rattle.azimuths.specs.declared.azimuth.Frame.{Frame}
use Rattle.azimuths.specs.Azimuth.{FrameAt}

-- ---- identities
scaled : (t x y z a b c : ℤ) →
    t *ℤ x *ℤ a +ℤ t *ℤ y *ℤ b +ℤ t *ℤ z *ℤ c ≡ t *ℤ (x *ℤ a +ℤ y *ℤ b +ℤ z *ℤ c)
scaled = ints 7 (λ t x y z a b c. t :* x :* a :+ t :* y :* b :+ t :* z :* c := t :* (x :* a :+ y :* b :+ z :* c)) tt

-- Lagrange's
crossed : (E N P Q : Point) →
    dot_of E P *ℤ dot_of N Q -ℤ dot_of N P *ℤ dot_of E Q ≡ dot_of (cross_of E N) (cross_of P Q)
unfolding dot_of cross_of
crossed = vecs 4 (λ e n p q. dot_e e p :* dot_e n q :- dot_e n p :* dot_e e q := dot_e (cross_e e n) (cross_e p q)) tt

turn_dot : (X P Q : Point) → dot_of X (cross_of P Q) ≡ orientation_of X P Q
unfolding dot_of cross_of orientation_of
turn_dot = vecs 3 (λ x p q. dot_e x (cross_e p q) := orientation_e x p q) tt

first_across : (E N : Point) → dot_of (cross_of E N) E ≡ pos 0
unfolding dot_of cross_of
first_across = vecs 2 (λ e n. dot_e (cross_e e n) e := con (pos 0)) tt

second_across : (E N : Point) → dot_of (cross_of E N) N ≡ pos 0
unfolding dot_of cross_of
second_across = vecs 2 (λ e n. dot_e (cross_e e n) n := con (pos 0)) tt

no_times : (a b : ℤ) → pos 0 *ℤ a -ℤ pos 0 *ℤ b ≡ pos 0
no_times = ints 2 (λ a b. con (pos 0) :* a :- con (pos 0) :* b := con (pos 0)) tt

-- ---- a product with a positive number
positive_factor : (t k : ℤ) → pos 0 <ℤ t → pos 0 <ℤ (t *ℤ k) → pos 0 <ℤ k
positive_factor =
    ints_sign 2 (λ t k. claim (t ∷ k ∷ []) [] (is (var 0) gt ∷ is (var 0 :* var 1) gt ∷ []) (var 1) gt) tt

zero_factor : (t k : ℤ) → pos 0 <ℤ t → t *ℤ k ≡ pos 0 → k ≡ pos 0
zero_factor = ints_sign 2 (λ t k. claim (t ∷ k ∷ []) [] (is (var 0) gt ∷ is (var 0 :* var 1) eq ∷ []) (var 1) eq) tt

module _ {X : Point} {F : Frame} (frame : FrameAt X F) where
  abbrev many : ℤ
  many = pos frame.times

  many_some : pos 0 <ℤ many
  many_some = lt_z_yes (lt→ltb 0 frame.times frame.some)

  frame_dot : (R : Point) → dot_of (cross_of F.east F.north) R ≡ many *ℤ dot_of X R
  unfolding dot_of
  frame_dot R = rw (frame.at_x, frame.at_y, frame.at_z) (scaled many X.x X.y X.z R.x R.y R.z)

  pub frame_side : (P Q : Point) →
      pos 0 <ℤ (dot_of F.east P *ℤ dot_of F.north Q -ℤ dot_of F.north P *ℤ dot_of F.east Q) →
      pos 0 <ℤ orientation_of X P Q
  frame_side P Q h =
      subst (λ k. pos 0 <ℤ k) (turn_dot X P Q) (positive_factor many (dot_of X (cross_of P Q)) many_some
      (subst (λ k. pos 0 <ℤ k) (crossed F.east F.north P Q ∙ frame_dot (cross_of P Q)) h))

  pub frame_level : (P Q : Point) → dot_of F.east P ≡ pos 0 → dot_of F.north P ≡ pos 0 →
      orientation_of X P Q ≡ pos 0
  frame_level P Q e n =
      sym (turn_dot X P Q) ∙ zero_factor many (dot_of X (cross_of P Q)) many_some
      (sym (crossed F.east F.north P Q ∙ frame_dot (cross_of P Q))
      ∙ ap₂ (λ u v. u *ℤ dot_of F.north Q -ℤ v *ℤ dot_of F.east Q) e n
      ∙ no_times (dot_of F.north Q) (dot_of F.east Q))

  pub east_across : dot_of F.east X ≡ pos 0
  east_across = dot_comm F.east X ∙ zero_factor many (dot_of X F.east) many_some
      (sym (frame_dot F.east) ∙ first_across F.east F.north)

  pub north_across : dot_of F.north X ≡ pos 0
  north_across = dot_comm F.north X ∙ zero_factor many (dot_of X F.north) many_some
      (sym (frame_dot F.north) ∙ second_across F.east F.north)

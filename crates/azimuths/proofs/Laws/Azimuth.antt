-- Azimuths tell sides. Defined: Parted. Proved: azimuth_below. Defined, in order: back, axis_of (the normals of the
-- planes, by quarter). Proved, in order: axis_dot, swapped; left_of, right_of, opposite.
use mathlib.Core.Path.{◌≡◌, refl, ap₂, ◌∙◌}
use mathlib.Core.List.{[], ◌∷◌}
use Prim.Native.Nat.{◌<◌}
use native.Mathlib.Omega.{arith}
use lib.IntN.{pos, neg_ℤ}
use lib.Signed.{◌<ℤ◌, ◌≤ℤ◌}
use Rattle.integers.proofs.Polynomial.{var, neg}
use Rattle.integers.proofs.Identity.{◌:+◌, ◌:=◌}
use Rattle.integers.proofs.Sign.{is, lt, gt}
use Rattle.integers.proofs.Infer.{claim}
use Rattle.integers.proofs.Order.{<ℤ→≤ℤ}
use Rattle.sphere.specs.declared.point.Point.{Point}
use Rattle.sphere.specs.Orientation.{orientation_of, dot_of}
use Rattle.sphere.proofs.Vectors.{orientation_e, dot_e, vecs, vecs_sign}
use Rattle.azimuths.specs.declared.azimuth.Frame.{Frame}
use Rattle.azimuths.specs.Azimuth.{azimuth_of, gap_of, Aside, FrameAt}
use Rattle.azimuths.proofs.Laws.Quarter.{Quarter, first, second, third, fourth}
use Rattle.azimuths.proofs.Laws.Seen.{Seen, seen_by, below, turned_left}
use Rattle.azimuths.proofs.Laws.Facing.{front, faced, beside, behind}
use Rattle.azimuths.proofs.Laws.Frame.{frame_side, east_across, north_across}

-- A plane through X with A and B on one side, and P strictly on the other.
pub record Parted (X P A B : Point) : Type 0 where
  pub normal : Point
  pub through : dot_of normal X ≡ pos 0
  pub first : pos 0 ≤ℤ dot_of normal A
  pub second : pos 0 ≤ℤ dot_of normal B
  pub beyond : dot_of normal P <ℤ pos 0

pub azimuth_below : (F : Frame) (P : Point) → azimuth_of F P < 65536
unfolding azimuth_of
azimuth_below F P = below (dot_of F.east P) (dot_of F.north P)

-- ---- the four axes
back : Point → Point
back N = record { x = neg_ℤ N.x; y = neg_ℤ N.y; z = neg_ℤ N.z }

back_dot : (N P : Point) → dot_of (back N) P ≡ neg_ℤ (dot_of N P)
unfolding back dot_of
back_dot = vecs 2 (λ n p. dot_e (record { x = neg n.x; y = neg n.y; z = neg n.z }) p := neg (dot_e n p)) tt

axis_of : Frame → Quarter → Point
axis_of F first = F.east
axis_of F second = F.north
axis_of F third = back F.east
axis_of F fourth = back F.north

axis_dot : (F : Frame) (q : Quarter) (P : Point) →
    dot_of (axis_of F q) P ≡ front q (dot_of F.east P) (dot_of F.north P)
unfolding axis_of
axis_dot F first P = refl
axis_dot F second P = refl
axis_dot F third P = back_dot F.east P
axis_dot F fourth P = back_dot F.north P

front_zero : (q : Quarter) → front q (pos 0) (pos 0) ≡ pos 0
front_zero first = refl
front_zero second = refl
front_zero third = refl
front_zero fourth = refl

swapped : (X P Q : Point) → pos 0 <ℤ orientation_of X Q P → orientation_of X P Q <ℤ pos 0
unfolding orientation_of
swapped = vecs_sign 3 (λ x p q. claim (orientation_e x q p ∷ orientation_e x p q ∷ []) (var 0 :+ var 1 ∷ [])
    (is (var 0) gt ∷ []) (var 1) lt) tt

module _ {X : Point} {F : Frame} (frame : FrameAt X F) where
  seen_at : (P : Point) → Aside F P → Seen (dot_of F.east P) (dot_of F.north P)
  seen_at P p = seen_by (dot_of F.east P) (dot_of F.north P) p.seen_from

  -- Q is strictly on the left of the arc from X to P.
  pub left_of : (P Q : Point) → Aside F P → Aside F Q → 0 < gap_of (azimuth_of F Q) (azimuth_of F P) →
      gap_of (azimuth_of F Q) (azimuth_of F P) < 32768 → pos 0 <ℤ orientation_of X P Q
  unfolding azimuth_of
  left_of P Q p v h k = frame_side frame P Q (turned_left (seen_at P p) (seen_at Q v) h k)

  -- Or strictly on its right.
  pub right_of : (P Q : Point) → Aside F P → Aside F Q → 32768 < gap_of (azimuth_of F Q) (azimuth_of F P) →
      orientation_of X P Q <ℤ pos 0
  right_of P Q p v h =
      let hP = azimuth_below F P in
      let hQ = azimuth_below F Q in
      swapped X P Q (left_of Q P v p (omega arith) (omega arith))

  -- Two points at one azimuth, and a third half a turn away: the plane is across the axis that the two go along.
  pub opposite : (P A B : Point) → Aside F P → Aside F A → Aside F B → azimuth_of F A ≡ azimuth_of F B →
      gap_of (azimuth_of F P) (azimuth_of F A) ≡ 32768 → Parted X P A B
  unfolding azimuth_of
  opposite P A B p a b same h =
      let fA = faced (seen_at A a) in
      let fB = faced (seen_at B b) in
      let fP = faced (seen_at P p) in
      let q = fA.axis in record {
        normal = axis_of F q;
        through = axis_dot F q X ∙ ap₂ (front q) (east_across frame) (north_across frame) ∙ front_zero q;
        first = <ℤ→≤ℤ (rw (axis_dot F q A) fA.ahead);
        second = <ℤ→≤ℤ (rw (axis_dot F q B) (beside fA fB same));
        beyond = rw (axis_dot F q P) (behind fA fP h);
      }

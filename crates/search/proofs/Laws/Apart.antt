-- A box strictly on one side of the plane with normal N. Proved, in order: least_corner, greatest_corner (the corners
-- that is_apart looks at are the extremes over the box), apart_one_side, one_side_apart, null_not_apart, corner_within.
use mathlib.Core.Path.{◌≡◌, refl}
use mathlib.Core.Logic.{◌⊎◌, inl, inr, ⊎_elim}
use mathlib.Core.Bool.{Bool, true, false, ◌||◌, cond, false≢true}
use mathlib.Core.List.{[], ◌∷◌}
use Prim.Native.Nat.{ℕ}
use lib.Dec.{T}
use lib.IntN.{ℤ, pos, ◌-ℤ◌, ◌*ℤ◌}
use lib.Signed.{◌<ℤ◌, ◌≤ℤ◌, ≤ℤ_refl}
use Rattle.integers.specs.Sign.{Sign, negative, nought, positive, sign_of, is_negative, is_positive}
use Rattle.integers.specs.Sign.{is_at_least_zero, is_at_most_zero}
use Rattle.integers.proofs.Polynomial.{var, con}
use Rattle.integers.proofs.Identity.{◌:+◌, ◌:-◌, ◌:*◌, ◌:=◌, IntFn}
use Rattle.integers.proofs.Sign.{lt, gt, le, ge, is, is_allows, allows_is}
use Rattle.integers.proofs.Infer.{Claim, claim, ints_sign}
use Rattle.integers.proofs.Order.{le→diff}
use Rattle.sphere.specs.declared.point.Point.{Point}
use Rattle.sphere.specs.Point.{Within, origin}
use Rattle.sphere.specs.Orientation.{dot_of}
use Rattle.sphere.proofs.Vectors.{dot_e, vecs, vecs_sign}
use Rattle.search.specs.declared.boxes.Bounds.{Bounds}
use Rattle.search.specs.Boxes.{end_for, corner_for, is_apart}
use Rattle.search.specs.Claims.{Below, InBox, AllAbove, AllBelow}
use Rattle.search.proofs.Laws.Extremes.{one_fits}

-- ---- along one axis: a factor n and a difference d of one sign
up : IntFn 3 Claim
up n a v = claim (n ∷ v :- a ∷ n :* v :- n :* a ∷ []) (var 0 :* var 1 :- var 2 ∷ [])
    (is (var 0) ge ∷ is (var 1) ge ∷ []) (var 2) ge

down : IntFn 3 Claim
down n b v = claim (n ∷ b :- v ∷ n :* v :- n :* b ∷ []) (var 0 :* var 1 :+ var 2 ∷ [])
    (is (var 0) le ∷ is (var 1) ge ∷ []) (var 2) ge

-- a number of that sign is at least or at most 0
not_below : (n : ℤ) (s : Sign) → sign_of n ≡ s → T (is_at_least_zero s) → pos 0 ≤ℤ n
not_below n s e t = allows_is ge n (rw e t)

not_above : (n : ℤ) (s : Sign) → sign_of n ≡ s → T (is_at_most_zero s) → n ≤ℤ pos 0
not_above n s e t = allows_is le n (rw e t)

module _ (n lo hi v : ℤ) (h : lo ≤ℤ v) (k : v ≤ℤ hi) where
  end_least : pos 0 ≤ℤ (n *ℤ v -ℤ n *ℤ end_for n lo hi)
  unfolding up down
  end_least = go (sign_of n) refl
    where
      go : (s : Sign) → sign_of n ≡ s → pos 0 ≤ℤ (n *ℤ v -ℤ n *ℤ cond (is_negative s) hi lo)
      go negative e = ints_sign 3 down tt n hi v (not_above n negative e tt) (le→diff k)
      go nought e = ints_sign 3 up tt n lo v (not_below n nought e tt) (le→diff h)
      go positive e = ints_sign 3 up tt n lo v (not_below n positive e tt) (le→diff h)

  end_greatest : pos 0 ≤ℤ (n *ℤ end_for n hi lo -ℤ n *ℤ v)
  unfolding up down
  end_greatest = go (sign_of n) refl
    where
      go : (s : Sign) → sign_of n ≡ s → pos 0 ≤ℤ (n *ℤ cond (is_negative s) lo hi -ℤ n *ℤ v)
      go negative e = ints_sign 3 down tt n v lo (not_above n negative e tt) (le→diff h)
      go nought e = ints_sign 3 up tt n v hi (not_below n nought e tt) (le→diff k)
      go positive e = ints_sign 3 up tt n v hi (not_below n positive e tt) (le→diff k)

-- ---- over the whole box
module _ (N : Point) (b : Bounds) (p : Point) (h : InBox b p) where
  pub least_corner : pos 0 <ℤ dot_of N (corner_for N b.low b.high) → pos 0 <ℤ dot_of N p
  unfolding dot_of corner_for
  least_corner = vecs_sign 3 (λ n c p. claim
      (n.x :* p.x :- n.x :* c.x ∷ n.y :* p.y :- n.y :* c.y ∷ n.z :* p.z :- n.z :* c.z
      ∷ dot_e n c ∷ dot_e n p ∷ [])
      (var 0 :+ var 1 :+ var 2 :+ var 3 :- var 4 ∷ [])
      (is (var 0) ge ∷ is (var 1) ge ∷ is (var 2) ge ∷ is (var 3) gt ∷ []) (var 4) gt) tt N
      (corner_for N b.low b.high) p
      (end_least N.x b.low.x b.high.x p.x h.above.at_x h.below.at_x)
      (end_least N.y b.low.y b.high.y p.y h.above.at_y h.below.at_y)
      (end_least N.z b.low.z b.high.z p.z h.above.at_z h.below.at_z)

  pub greatest_corner : dot_of N (corner_for N b.high b.low) <ℤ pos 0 → dot_of N p <ℤ pos 0
  unfolding dot_of corner_for
  greatest_corner = vecs_sign 3 (λ n c p. claim
      (n.x :* c.x :- n.x :* p.x ∷ n.y :* c.y :- n.y :* p.y ∷ n.z :* c.z :- n.z :* p.z
      ∷ dot_e n c ∷ dot_e n p ∷ [])
      (var 0 :+ var 1 :+ var 2 :+ var 4 :- var 3 ∷ [])
      (is (var 0) ge ∷ is (var 1) ge ∷ is (var 2) ge ∷ is (var 3) lt ∷ []) (var 4) lt) tt N
      (corner_for N b.high b.low) p
      (end_greatest N.x b.low.x b.high.x p.x h.above.at_x h.below.at_x)
      (end_greatest N.y b.low.y b.high.y p.y h.above.at_y h.below.at_y)
      (end_greatest N.z b.low.z b.high.z p.z h.above.at_z h.below.at_z)

-- A corner lies in the box.
between : (t : Bool) {lo hi : ℤ} → lo ≤ℤ hi → (lo ≤ℤ cond t hi lo) × (cond t hi lo ≤ℤ hi)
between true {lo} {hi} h = (h, ≤ℤ_refl hi)
between false {lo} {hi} h = (≤ℤ_refl lo, h)

module _ (N : Point) (b : Bounds) where
  corner_in : Below b.low b.high →
      InBox b (corner_for N b.low b.high) × InBox b (corner_for N b.high b.low)
  unfolding corner_for
  corner_in h =
      let x = is_negative (sign_of N.x) in
      let y = is_negative (sign_of N.y) in
      let z = is_negative (sign_of N.z) in
      let kx = h.at_x in
      let ky = h.at_y in
      let kz = h.at_z in (
        record {
          above = record { at_x = (between x kx).0; at_y = (between y ky).0; at_z = (between z kz).0 };
          below = record { at_x = (between x kx).1; at_y = (between y ky).1; at_z = (between z kz).1 };
        },
        record {
          above = record { at_x = (other x kx).0; at_y = (other y ky).0; at_z = (other z kz).0 };
          below = record { at_x = (other x kx).1; at_y = (other y ky).1; at_z = (other z kz).1 };
        },
      )
    where
      other : (t : Bool) {lo hi : ℤ} → lo ≤ℤ hi → (lo ≤ℤ cond t lo hi) × (cond t lo hi ≤ℤ hi)
      other true {lo} {hi} h = (≤ℤ_refl lo, h)
      other false {lo} {hi} h = (h, ≤ℤ_refl hi)

  abbrev least : ℤ
  least = dot_of N (corner_for N b.low b.high)

  abbrev greatest : ℤ
  greatest = dot_of N (corner_for N b.high b.low)

  pub apart_one_side : is_apart N b ≡ true → AllAbove N b ⊎ AllBelow N b
  unfolding is_apart
  apart_one_side e = go (is_positive (sign_of least)) (is_negative (sign_of greatest)) refl refl e
    where
      go : (s t : Bool) → is_positive (sign_of least) ≡ s → is_negative (sign_of greatest) ≡ t → (s || t) ≡ true →
          AllAbove N b ⊎ AllBelow N b
      go true t es et e = inl (λ p h. least_corner N b p h (allows_is gt least (rw es tt)))
      go false true es et e = inr (λ p h. greatest_corner N b p h (allows_is lt greatest (rw et tt)))
      go false false es et e = absurd (false≢true e)

  pub one_side_apart : Below b.low b.high → AllAbove N b ⊎ AllBelow N b → is_apart N b ≡ true
  unfolding is_apart
  one_side_apart h = ⊎_elim
      (λ above. left (is_positive (sign_of least)) _ (is_allows gt least (above _ (corner_in h).0)))
      (λ below. right (is_positive (sign_of least)) (is_negative (sign_of greatest))
      (is_allows lt greatest (below _ (corner_in h).1)))
    where
      left : (s t : Bool) → T s → (s || t) ≡ true
      left true t h = refl
      left false t h = absurd h

      right : (s t : Bool) → T t → (s || t) ≡ true
      right true t h = refl
      right false true h = refl
      right false false h = absurd h

-- ---- the zero vector is the normal of no plane
null_dot : (p : Point) → dot_of origin p ≡ pos 0
unfolding dot_of
null_dot = vecs 1 (λ p. dot_e (record { x = con (pos 0); y = con (pos 0); z = con (pos 0) }) p := con (pos 0)) tt

pub null_not_apart : (b : Bounds) → is_apart origin b ≡ false
unfolding is_apart
null_not_apart b =
    rw (null_dot (corner_for origin b.low b.high), null_dot (corner_for origin b.high b.low))

pub corner_within : {limit : ℕ} (N p q : Point) → Within limit p → Within limit q → Within limit (corner_for N p q)
unfolding corner_for
corner_within N p q h k = record {
  at_x = one_fits (is_negative (sign_of N.x)) h.at_x k.at_x;
  at_y = one_fits (is_negative (sign_of N.y)) h.at_y k.at_y;
  at_z = one_fits (is_negative (sign_of N.z)) h.at_z k.at_z;
}

-- The frames that go round an axis of the reference point. Defined, in order: across_x, across_y, across_z (vectors across
-- the point, in the plane across an axis), Round, turned_by. Proved, in order: round_z, round_y, round_x, framed (a
-- frame at the point), longest (the longest axis is not zero).
use mathlib.Core.Path.{◌≡◌, ap, ◌∙◌}
use mathlib.Core.Bool.{Bool, false, cond, true≢false}
use Prim.Native.Nat.{ℕ, zero, suc, ◌≤◌, ◌<◌}
use native.Mathlib.Omega.{arith}
use borrow.Author.Tests.{lt-ltb}
use lib.IntN.{ℤ, pos, negsuc, neg_ℤ, nat_abs, ◌-ℤ◌, ◌*ℤ◌}
use lib.Signed.{lt_z}
use Rattle.integers.proofs.Polynomial.{Expr, con, neg}
use Rattle.integers.proofs.Identity.{◌:-◌, ◌:*◌, ◌:=◌, ints}
use Rattle.integers.proofs.Size.{nat_abs-sub, nat_abs_zero}
use Rattle.sphere.specs.declared.point.Point.{Point}
use Rattle.sphere.specs.Point.{Within, Fits, is_null}
use Rattle.sphere.specs.Orientation.{cross_of}
use Rattle.sphere.proofs.Vectors.{Vector, cross_e, vecs}
use Rattle.azimuths.specs.declared.azimuth.Frame.{Frame}
use Rattle.azimuths.specs.Azimuth.{FrameAt}

abbrev pub across_x : Point → Point
across_x X = record { x = pos 0; y = pos 0 -ℤ X.z; z = X.y }

abbrev pub across_y : Point → Point
across_y X = record { x = X.z; y = pos 0; z = pos 0 -ℤ X.x }

abbrev pub across_z : Point → Point
across_z X = record { x = pos 0 -ℤ X.y; y = X.x; z = pos 0 }

-- The cross product of A and B is k times X, and neither is beyond X's limit.
pub record Round (X A B : Point) (k : ℤ) : Type 0 where
  pub at_x : (cross_of A B).x ≡ k *ℤ X.x
  pub at_y : (cross_of A B).y ≡ k *ℤ X.y
  pub at_z : (cross_of A B).z ≡ k *ℤ X.z
  pub within : (limit : ℕ) → Within limit X → Within limit A × Within limit B

none_fits : {n : ℕ} → Fits n (pos 0)
none_fits = record { within = omega arith }

less_fits : {n : ℕ} (k : ℤ) → Fits n k → Fits n (pos 0 -ℤ k)
less_fits k h = record { within = omega (arith, nat_abs-sub (pos 0) k, h.within) }

module _ (X : Point) (limit : ℕ) (h : Within limit X) where
  within_x : Within limit (across_x X)
  within_x = record { at_x = none_fits; at_y = less_fits X.z h.at_z; at_z = h.at_y }

  within_y : Within limit (across_y X)
  within_y = record { at_x = h.at_z; at_y = none_fits; at_z = less_fits X.x h.at_x }

  within_z : Within limit (across_z X)
  within_z = record { at_x = less_fits X.y h.at_y; at_y = h.at_x; at_z = none_fits }

-- the same of expressions
abbrev none : Expr
none = con (pos 0)

abbrev x_e : Vector → Vector
x_e v = record { x = none; y = none :- v.z; z = v.y }

abbrev y_e : Vector → Vector
y_e v = record { x = v.z; y = none; z = none :- v.x }

abbrev z_e : Vector → Vector
z_e v = record { x = none :- v.y; y = v.x; z = none }

pub round_z : (X : Point) → Round X (across_x X) (across_y X) X.z
unfolding cross_of
round_z X = record {
  at_x = vecs 1 (λ v. (cross_e (x_e v) (y_e v)).x := v.z :* v.x) tt X;
  at_y = vecs 1 (λ v. (cross_e (x_e v) (y_e v)).y := v.z :* v.y) tt X;
  at_z = vecs 1 (λ v. (cross_e (x_e v) (y_e v)).z := v.z :* v.z) tt X;
  within = λ limit h. (within_x X limit h, within_y X limit h);
}

pub round_y : (X : Point) → Round X (across_z X) (across_x X) X.y
unfolding cross_of
round_y X = record {
  at_x = vecs 1 (λ v. (cross_e (z_e v) (x_e v)).x := v.y :* v.x) tt X;
  at_y = vecs 1 (λ v. (cross_e (z_e v) (x_e v)).y := v.y :* v.y) tt X;
  at_z = vecs 1 (λ v. (cross_e (z_e v) (x_e v)).z := v.y :* v.z) tt X;
  within = λ limit h. (within_z X limit h, within_x X limit h);
}

pub round_x : (X : Point) → Round X (across_y X) (across_z X) X.x
unfolding cross_of
round_x X = record {
  at_x = vecs 1 (λ v. (cross_e (y_e v) (z_e v)).x := v.x :* v.x) tt X;
  at_y = vecs 1 (λ v. (cross_e (y_e v) (z_e v)).y := v.x :* v.y) tt X;
  at_z = vecs 1 (λ v. (cross_e (y_e v) (z_e v)).z := v.x :* v.z) tt X;
  within = λ limit h. (within_y X limit h, within_z X limit h);
}

-- ---- the frame: the other way round where the axis points back
abbrev pub turned_by : Bool → Point → Point → Frame
turned_by t A B = cond t (record { east = A; north = B }) (record { east = B; north = A })

swap_x : (A B : Point) → (cross_of B A).x ≡ neg_ℤ (cross_of A B).x
unfolding cross_of
swap_x = vecs 2 (λ a b. (cross_e b a).x := neg (cross_e a b).x) tt

swap_y : (A B : Point) → (cross_of B A).y ≡ neg_ℤ (cross_of A B).y
unfolding cross_of
swap_y = vecs 2 (λ a b. (cross_e b a).y := neg (cross_e a b).y) tt

swap_z : (A B : Point) → (cross_of B A).z ≡ neg_ℤ (cross_of A B).z
unfolding cross_of
swap_z = vecs 2 (λ a b. (cross_e b a).z := neg (cross_e a b).z) tt

twice : (t k : ℤ) → neg_ℤ (neg_ℤ t *ℤ k) ≡ t *ℤ k
twice = ints 2 (λ t k. neg (neg t :* k) := t :* k) tt

pub framed : (X A B : Point) (k : ℤ) → Round X A B k → 0 < nat_abs k → FrameAt X (turned_by (lt_z (pos 0) k) A B)
framed X A B (pos n) r h = rw (lt-ltb 0 n h) (record {
  times = n;
  at_x = r.at_x;
  at_y = r.at_y;
  at_z = r.at_z;
  some = h;
  within = r.within;
})
framed X A B (negsuc n) r h = record {
  times = suc n;
  at_x = swap_x A B ∙ ap neg_ℤ r.at_x ∙ twice (pos (suc n)) X.x;
  at_y = swap_y A B ∙ ap neg_ℤ r.at_y ∙ twice (pos (suc n)) X.y;
  at_z = swap_z A B ∙ ap neg_ℤ r.at_z ∙ twice (pos (suc n)) X.z;
  some = h;
  within = λ limit w. ((r.within limit w).1, (r.within limit w).0);
}

pub longest : (X : Point) (n : ℕ) → is_null X ≡ false → nat_abs X.x ≤ n → nat_abs X.y ≤ n → nat_abs X.z ≤ n → 0 < n
unfolding is_null
longest X (suc n) e hx hy hz = omega arith
longest X zero e hx hy hz =
    let x = nat_abs_zero X.x (omega arith) in
    let y = nat_abs_zero X.y (omega arith) in
    let z = nat_abs_zero X.z (omega arith) in
    absurd (true≢false (rw (x, y, z) at e))

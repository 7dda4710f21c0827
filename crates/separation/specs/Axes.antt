-- Bounds along an axis of what no plane separates from a polygon, as the code holds them. Defined, in order: unit,
-- more_of, greatest (a point's greatest number in size); plane_of (the normal 2^30 E - L D), Greatest, Frame (E, D and F are
-- the three axes, each one way or the other), Lower (L bounds along E, in units of 2^-30 of the greatest number, whatever
-- no plane separates from the polygon), AllClear, AnyClear (the planes that show it: for L > 0 all four, for L <= 0 one
-- of them).
use Rattle.std.specs.Prelude.{◌≡◌, ℕ, ◌≤◌, cond, ◌⊎◌, List, ℤ, pos, ◌-ℤ◌, ◌*ℤ◌, neg_ℤ, ◌<ℤ◌, nat_lt, unsigned_abs}
use Rattle.sphere.specs.declared.point.Point.{Point}
use Rattle.sphere.specs.Point.{Fits, Within}
use Rattle.sphere.specs.Orientation.{dot_of}
use Rattle.separation.specs.Separation.{Ahead}
use Rattle.separation.specs.Planes.{Behind}

-- 2^30
abbrev pub unit : ℕ
unit = 1073741824

abbrev pub more_of : ℕ → ℕ → ℕ
more_of m n = cond (nat_lt m n) n m

unfoldable pub greatest : Point → ℕ
greatest P = more_of (unsigned_abs P.x) (more_of (unsigned_abs P.y) (unsigned_abs P.z))

unfoldable pub plane_of : Point → Point → ℤ → Point
plane_of E D L = record {
  x = pos unit *ℤ E.x -ℤ L *ℤ D.x;
  y = pos unit *ℤ E.y -ℤ L *ℤ D.y;
  z = pos unit *ℤ E.z -ℤ L *ℤ D.z;
}

-- m is the greatest of three numbers in size.
pub record Greatest (m : ℕ) (e d f : ℤ) : Type 0 where
  pub at_e : unsigned_abs e ≤ m
  pub at_d : unsigned_abs d ≤ m
  pub at_f : unsigned_abs f ≤ m
  pub one : (unsigned_abs e ≡ m) ⊎ ((unsigned_abs d ≡ m) ⊎ (unsigned_abs f ≡ m))

pub record Frame (E D F : Point) : Type 0 where
  pub at_e : Within 1 E
  pub at_d : Within 1 D
  pub at_f : Within 1 F
  pub each : (P : Point) → Greatest (greatest P) (dot_of E P) (dot_of D P) (dot_of F P)

pub record Lower (vs : List ℤ) (E : Point) (L : ℤ) : Type 0 where
  pub in_range : Fits unit L
  pub behind : (P : Point) → (pos unit *ℤ dot_of E P) <ℤ (L *ℤ pos (greatest P)) → Behind vs P

pub record AllClear (vs : List ℤ) (E D F : Point) (L : ℤ) : Type 0 where
  pub at_d : Ahead vs (plane_of E D L)
  pub back_d : Ahead vs (plane_of E D (neg_ℤ L))
  pub at_f : Ahead vs (plane_of E F L)
  pub back_f : Ahead vs (plane_of E F (neg_ℤ L))

abbrev pub AnyClear : List ℤ → Point → Point → Point → ℤ → Type 0
AnyClear vs E D F L =
    (Ahead vs (plane_of E D L) ⊎ Ahead vs (plane_of E D (neg_ℤ L)))
    ⊎ (Ahead vs (plane_of E F L) ⊎ Ahead vs (plane_of E F (neg_ℤ L)))

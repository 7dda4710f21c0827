-- Bounds along an axis. Proved, in order: plane_dot; below_size; beside_lower (one plane, L <= 0), forward_lower (four
-- planes, L > 0), zero_lower (the polygon is ahead of the axis's own plane), least_lower (no bound); plane-within.
use Rattle.std.proofs.Common.{◌≡◌, ℕ, ◌≤◌, true, ◌⊎◌, List, [], ◌∷◌, ℤ, pos, negsuc, ◌-ℤ◌, ◌*ℤ◌, neg_ℤ, nat_abs, ◌≤ℤ◌, ◌<ℤ◌, sym, refl, ap, subst, inl, inr, ⊎_elim, le→leb, leb→le}
use lib.Signed.{le_z_yes, clash_ℤ}
use Rattle.integers.specs.Sign.{Sign, negative, nought, positive, sign_of}
use Rattle.integers.proofs.Size.{nat_abs-neg}
use Rattle.integers.proofs.Order.{lt→diff, le→diff}
use Rattle.integers.proofs.Polynomial.{con, neg, var}
use Rattle.integers.proofs.Identity.{◌:+◌, ◌:-◌, ◌:*◌, ◌:=◌, ints}
use Rattle.integers.proofs.Infer.{claim, ints_sign}
use Rattle.integers.proofs.Sign.{is, lt, le, gt, ge, allows_is}
use Rattle.sphere.specs.declared.point.Point.{Point}
use Rattle.sphere.specs.Point.{Fits}
use Rattle.sphere.specs.Orientation.{dot_of}
use Rattle.separation.specs.Separation.{Ahead, is_ahead}
use Rattle.separation.specs.Planes.{Behind}
use Rattle.separation.proofs.Laws.Screened.{test→ahead}
use Rattle.separation.specs.Axes.{unit, greatest}
use Rattle.separation.specs.Axes.{plane_of, Frame, Lower, AllClear, AnyClear}

abbrev pub u : ℤ
u = pos unit

pub u_positive : pos 0 <ℤ u
u_positive = allows_is gt u tt

pub plane_dot : (E D P : Point) (L : ℤ) → dot_of (plane_of E D L) P ≡ u *ℤ dot_of E P -ℤ L *ℤ dot_of D P
unfolding dot_of plane_of
plane_dot E D P L = ints 11 (λ u l ex ey ez dx dy dz px py pz.
    (u :* ex :- l :* dx) :* px :+ (u :* ey :- l :* dy) :* py :+ (u :* ez :- l :* dz) :* pz
    := u :* (ex :* px :+ ey :* py :+ ez :* pz) :- l :* (dx :* px :+ dy :* py :+ dz :* pz)) tt
    u L E.x E.y E.z D.x D.y D.z P.x P.y P.z

-- ---- numbers and the greatest of them in size
pub below_size : (z : ℤ) (m : ℕ) → nat_abs z ≤ m → z ≤ℤ pos m
below_size (pos n) m h = le_z_yes (le→leb n m h)
below_size (negsuc n) m h = le_z_yes tt

pub above_size : (z : ℤ) (m : ℕ) → nat_abs z ≤ m → neg_ℤ z ≤ℤ pos m
above_size z m h = below_size (neg_ℤ z) m (rw (nat_abs-neg z) h)

pub size_either : (z : ℤ) (m : ℕ) → nat_abs z ≡ m → (z ≡ pos m) ⊎ (z ≡ neg_ℤ (pos m))
size_either (pos n) m h = inl (ap pos h)
size_either (negsuc n) m h = inr (ap (λ k. neg_ℤ (pos k)) h)

-- ---- one plane
-- L at most 0 and d at most m: 2^30 e - L d is less than L m - L d.
beside_sign : (L d e m : ℤ) → L ≤ℤ pos 0 → d ≤ℤ m → (u *ℤ e) <ℤ (L *ℤ m) → (u *ℤ e -ℤ L *ℤ d) <ℤ pos 0
beside_sign L d e m l h k = ints_sign 5 (λ l d e m u.
    claim (l ∷ m :- d ∷ l :* m :- u :* e ∷ u :* e :- l :* d ∷ []) (var 3 :+ var 2 :- var 0 :* var 1 ∷ [])
    (is (var 0) le ∷ is (var 1) ge ∷ is (var 2) gt ∷ []) (var 3) lt) tt L d e m u l (le→diff h) (lt→diff k)

back_sign : (L d e m : ℤ) → L ≤ℤ pos 0 → neg_ℤ d ≤ℤ m → (u *ℤ e) <ℤ (L *ℤ m) → (u *ℤ e -ℤ neg_ℤ L *ℤ d) <ℤ pos 0
back_sign L d e m l h k = ints_sign 5 (λ l d e m u.
    claim (l ∷ m :- neg d ∷ l :* m :- u :* e ∷ u :* e :- neg l :* d ∷ []) (var 3 :+ var 2 :- var 0 :* var 1 ∷ [])
    (is (var 0) le ∷ is (var 1) ge ∷ is (var 2) gt ∷ []) (var 3) lt) tt L d e m u l (le→diff h) (lt→diff k)

-- ---- four planes
module _ (L : ℤ) where
  -- A number that is the greatest in size: the plane on its side has P behind it.
  greatest_sign : (d e m : ℤ) → d ≡ m → (u *ℤ e) <ℤ (L *ℤ m) → (u *ℤ e -ℤ L *ℤ d) <ℤ pos 0
  greatest_sign d e m q h = subst (λ m. (u *ℤ e) <ℤ (L *ℤ m) → (u *ℤ e -ℤ L *ℤ d) <ℤ pos 0) q
      (λ h. ints_sign 4 (λ l d e u. claim (l :* d :- u :* e ∷ u :* e :- l :* d ∷ []) (var 0 :+ var 1 ∷ [])
      (is (var 0) gt ∷ []) (var 1) lt) tt L d e u (lt→diff h)) h

  least_sign : (d e m : ℤ) → d ≡ neg_ℤ m → (u *ℤ e) <ℤ (L *ℤ m) → (u *ℤ e -ℤ neg_ℤ L *ℤ d) <ℤ pos 0
  least_sign d e m q h = subst (λ d. (u *ℤ e -ℤ neg_ℤ L *ℤ d) <ℤ pos 0) (sym q)
      (ints_sign 4 (λ l m e u. claim (l :* m :- u :* e ∷ u :* e :- neg l :* neg m ∷ []) (var 0 :+ var 1 ∷ [])
      (is (var 0) gt ∷ []) (var 1) lt) tt L m e u (lt→diff h))

  ahead_sign : (d e : ℤ) → pos 0 <ℤ L → e <ℤ pos 0 → pos 0 ≤ℤ d → (u *ℤ e -ℤ L *ℤ d) <ℤ pos 0
  ahead_sign d e l h k = ints_sign 4 (λ l d e u.
      claim (l ∷ d ∷ e ∷ u ∷ u :* e :- l :* d ∷ []) (var 4 :- var 3 :* var 2 :+ var 0 :* var 1 ∷ [])
      (is (var 0) gt ∷ is (var 1) ge ∷ is (var 2) lt ∷ is (var 3) gt ∷ []) (var 4) lt) tt L d e u l k h u_positive

  behind_sign : (d e : ℤ) → pos 0 <ℤ L → e <ℤ pos 0 → d ≤ℤ pos 0 → (u *ℤ e -ℤ neg_ℤ L *ℤ d) <ℤ pos 0
  behind_sign d e l h k = ints_sign 4 (λ l d e u.
      claim (l ∷ d ∷ e ∷ u ∷ u :* e :- neg l :* d ∷ []) (var 4 :- var 3 :* var 2 :- var 0 :* var 1 ∷ [])
      (is (var 0) gt ∷ is (var 1) le ∷ is (var 2) lt ∷ is (var 3) gt ∷ []) (var 4) lt) tt L d e u l k h u_positive

  -- e itself is not the greatest, as L is at most 2^30
  no_greatest : (e m : ℤ) → L ≤ℤ u → pos 0 ≤ℤ e → e ≡ m → (u *ℤ e) <ℤ (L *ℤ m) → ⊥
  no_greatest e m l k q h = clash_ℤ (subst (λ m. (u *ℤ e) <ℤ (L *ℤ m) → pos 0 <ℤ (L *ℤ e -ℤ u *ℤ e)) q lt→diff h)
      (ints_sign 3 (λ l e u. claim (u :- l ∷ e ∷ l :* e :- u :* e ∷ []) (var 2 :+ var 0 :* var 1 ∷ [])
      (is (var 0) ge ∷ is (var 1) ge ∷ []) (var 2) le) tt L e u (le→diff l) k)

  no_least : (e m : ℤ) → pos 0 <ℤ L → pos 0 ≤ℤ e → e ≡ neg_ℤ m → (u *ℤ e) <ℤ (L *ℤ m) → ⊥
  no_least e m l k q h = clash_ℤ (lt→diff (subst (λ e. (u *ℤ e) <ℤ (L *ℤ m)) q h))
      (ints_sign 3 (λ l m u. claim (l ∷ neg m ∷ u ∷ l :* m :- u :* neg m ∷ [])
      (var 3 :+ var 0 :* var 1 :+ var 2 :* var 1 ∷ []) (is (var 0) gt ∷ is (var 1) ge ∷ is (var 2) gt ∷ []) (var 3) le)
      tt L m u l (subst (λ e. pos 0 ≤ℤ e) q k) u_positive)

module _ (vs : List ℤ) (E D F : Point) (f : Frame E D F) where
  behind_by : (C P : Point) (M : ℤ) → Ahead vs (plane_of E C M) → (u *ℤ dot_of E P -ℤ M *ℤ dot_of C P) <ℤ pos 0 →
      Behind vs P
  behind_by C P M a h = record {
    normal = plane_of E C M;
    separates = record { ahead = a; behind = subst (λ k. k <ℤ pos 0) (sym (plane_dot E C P M)) h };
  }

  pub beside_lower : (L : ℤ) → Fits unit L → L ≤ℤ pos 0 → AnyClear vs E D F L → Lower vs E L
  beside_lower L r l any = record {
    in_range = r;
    behind = λ P h.
        let g = f.each P in
        let m = greatest P in
        ⊎_elim
        (λ w. ⊎_elim (λ a. behind_by D P L a (beside_sign L (dot_of D P) (dot_of E P) (pos m) l
        (below_size (dot_of D P) m g.at_d) h))
        (λ a. behind_by D P (neg_ℤ L) a (back_sign L (dot_of D P) (dot_of E P) (pos m) l
        (above_size (dot_of D P) m g.at_d) h)) w)
        (λ w. ⊎_elim (λ a. behind_by F P L a (beside_sign L (dot_of F P) (dot_of E P) (pos m) l
        (below_size (dot_of F P) m g.at_f) h))
        (λ a. behind_by F P (neg_ℤ L) a (back_sign L (dot_of F P) (dot_of E P) (pos m) l
        (above_size (dot_of F P) m g.at_f) h)) w)
        any;
  }

  pub forward_lower : (L : ℤ) → Fits unit L → pos 0 <ℤ L → L ≤ℤ u → AllClear vs E D F L → Lower vs E L
  forward_lower L r l top all = record { in_range = r; behind = λ P h. go P h (sign_of (dot_of E P)) refl }
    where
      by_sign : (P : Point) → dot_of E P <ℤ pos 0 → (s : Sign) → sign_of (dot_of D P) ≡ s → Behind vs P
      by_sign P h negative q = behind_by D P (neg_ℤ L) all.back_d
          (behind_sign L (dot_of D P) (dot_of E P) l h (allows_is le (dot_of D P) (rw q tt)))
      by_sign P h nought q = behind_by D P L all.at_d
          (ahead_sign L (dot_of D P) (dot_of E P) l h (allows_is ge (dot_of D P) (rw q tt)))
      by_sign P h positive q = behind_by D P L all.at_d
          (ahead_sign L (dot_of D P) (dot_of E P) l h (allows_is ge (dot_of D P) (rw q tt)))

      by_one : (P : Point) → (u *ℤ dot_of E P) <ℤ (L *ℤ pos (greatest P)) → pos 0 ≤ℤ dot_of E P → Behind vs P
      by_one P h k =
          let g = f.each P in
          let m = greatest P in
          ⊎_elim
          (λ q. ⊎_elim (λ w. absurd (no_greatest L (dot_of E P) (pos m) top k w h))
          (λ w. absurd (no_least L (dot_of E P) (pos m) l k w h)) (size_either (dot_of E P) m q))
          (λ o. ⊎_elim
          (λ q. ⊎_elim (λ w. behind_by D P L all.at_d (greatest_sign L (dot_of D P) (dot_of E P) (pos m) w h))
          (λ w. behind_by D P (neg_ℤ L) all.back_d (least_sign L (dot_of D P) (dot_of E P) (pos m) w h))
          (size_either (dot_of D P) m q))
          (λ q. ⊎_elim (λ w. behind_by F P L all.at_f (greatest_sign L (dot_of F P) (dot_of E P) (pos m) w h))
          (λ w. behind_by F P (neg_ℤ L) all.back_f (least_sign L (dot_of F P) (dot_of E P) (pos m) w h))
          (size_either (dot_of F P) m q))
          o)
          g.one

      go : (P : Point) → (u *ℤ dot_of E P) <ℤ (L *ℤ pos (greatest P)) → (s : Sign) → sign_of (dot_of E P) ≡ s →
          Behind vs P
      go P h negative q = by_sign P (allows_is lt (dot_of E P) (rw q tt)) (sign_of (dot_of D P)) refl
      go P h nought q = by_one P h (allows_is ge (dot_of E P) (rw q tt))
      go P h positive q = by_one P h (allows_is ge (dot_of E P) (rw q tt))

  -- ---- no bound
  pub least_lower : Lower vs E (negsuc 1073741823)
  least_lower = record {
    in_range = record { within = leb→le unit unit tt };
    behind = λ P h. clash_ℤ (lt→diff h)
        (ints_sign 3 (λ e m u. claim (m :- neg e ∷ u ∷ neg u :* m :- u :* e ∷ []) (var 2 :+ var 1 :* var 0 ∷ [])
        (is (var 0) ge ∷ is (var 1) gt ∷ []) (var 2) le) tt (dot_of E P) (pos (greatest P)) u
        (le→diff (above_size (dot_of E P) (greatest P) (f.each P).at_e)) u_positive);
  }

-- ---- the plane of the axis itself
pub zero_lower : {vs : List ℤ} {E : Point} → is_ahead vs E ≡ true → Lower vs E (pos 0)
zero_lower {vs} {E} a = record {
  in_range = record { within = leb→le 0 unit tt };
  behind = λ P h. record {
    normal = E;
    separates = record {
      ahead = test→ahead a;
      behind = ints_sign 3 (λ e m u. claim (e ∷ u ∷ con (pos 0) :* m :- u :* e ∷ []) (var 2 :+ var 1 :* var 0 ∷ [])
          (is (var 1) gt ∷ is (var 2) gt ∷ []) (var 0) lt) tt (dot_of E P) (pos (greatest P)) u u_positive (lt→diff h);
    };
  };
}

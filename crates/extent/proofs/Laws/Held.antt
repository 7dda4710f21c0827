-- What six bounds hold. Proved, in order: not_less; held, over; enclosed; whole_holds (the whole holds everything).
use mathlib.Core.Path.{◌≡◌, sym, subst}
use mathlib.Core.List.{List, [], ◌∷◌}
use Prim.Native.Nat.{ℕ, ◌≤◌}
use lib.IntN.{ℤ, pos, negsuc, neg_ℤ, nat_abs, ◌-ℤ◌, ◌*ℤ◌}
use lib.Signed.{◌<ℤ◌, ◌≤ℤ◌}
use Rattle.integers.proofs.Order.{diff→lt, diff→le, le→diff}
use Rattle.integers.proofs.Polynomial.{neg, var}
use Rattle.integers.proofs.Identity.{◌:+◌, ◌:-◌, ◌:*◌}
use Rattle.integers.proofs.Infer.{claim, ints_sign}
use Rattle.integers.proofs.Sign.{is, lt, gt, ge, else_absurd}
use Rattle.sphere.specs.declared.point.Point.{Point}
use Rattle.sphere.specs.Orientation.{dot_of}
use Rattle.separation.specs.Separation.{reverse}
use Rattle.separation.specs.Planes.{Behind}
use Rattle.separation.proofs.Behind.{reverse_within}
use Rattle.separation.specs.Axes.{unit, greatest}
use Rattle.extent.specs.Sides.{Between, InBox, whole_sides}
use Rattle.separation.specs.Axes.{Lower}
use Rattle.extent.specs.Sides.{Bounds, Encloses}
use Rattle.separation.proofs.Laws.Lower.{u_positive, below_size, above_size}
use Rattle.extent.proofs.Laws.Frames.{greatest_sizes, dot_forward, dot_backward}

pub not_less : (a b : ℤ) → (a <ℤ b → ⊥) → b ≤ℤ a
not_less a b f = diff→le (else_absurd ge (a -ℤ b) (λ h. f (diff→lt
    (ints_sign 2 (λ a b. claim (a :- b ∷ b :- a ∷ []) (var 0 :+ var 1 ∷ []) (is (var 0) lt ∷ []) (var 1) gt) tt
    a b h))))

module _ {vs : List ℤ} (P : Point) (free : Behind vs P → ⊥) where
  held : (E : Point) (L k : ℤ) → dot_of E P ≡ k → Lower vs E L → (L *ℤ pos (greatest P)) ≤ℤ (pos unit *ℤ k)
  held E L k q l = not_less (pos unit *ℤ k) (L *ℤ pos (greatest P))
      (λ h. free (l.behind P (subst (λ k. (pos unit *ℤ k) <ℤ (L *ℤ pos (greatest P))) (sym q) h)))

  -- a lower bound of -k is an upper bound of k, negated
  over : (E : Point) (L k : ℤ) → dot_of E P ≡ neg_ℤ k → Lower vs E L →
      (pos unit *ℤ k) ≤ℤ (neg_ℤ L *ℤ pos (greatest P))
  over E L k q l = diff→le (ints_sign 4 (λ l k m u.
      claim (u :* neg k :- l :* m ∷ neg l :* m :- u :* k ∷ []) (var 0 :- var 1 ∷ []) (is (var 0) ge ∷ []) (var 1) ge) tt
      L k (pos (greatest P)) (pos unit) (le→diff (held E L (neg_ℤ k) q l)))

pub enclosed : {vs : List ℤ} (low high : Point) → Bounds vs (pos 1) low → Bounds vs (negsuc 0) high →
    Encloses vs (record { low = low; high = reverse high })
unfolding reverse
enclosed low high a b = record {
  low_range = record { at_x = a.along_x.in_range; at_y = a.along_y.in_range; at_z = a.along_z.in_range };
  high_range = reverse_within
      (record { at_x = b.along_x.in_range; at_y = b.along_y.in_range; at_z = b.along_z.in_range });
  each = λ P free.
      let f = dot_forward P in
      let r = dot_backward P in
      record {
        at_x = record {
          least = held P free _ _ _ f.0 a.along_x;
          most = over P free _ _ P.x r.0 b.along_x;
        };
        at_y = record {
          least = held P free _ _ _ f.1.0 a.along_y;
          most = over P free _ _ P.y r.1.0 b.along_y;
        };
        at_z = record {
          least = held P free _ _ _ f.1.1 a.along_z;
          most = over P free _ _ P.z r.1.1 b.along_z;
        };
      };
}

-- ---- the whole
whole_between : (k : ℤ) (m : ℕ) → nat_abs k ≤ m → Between (negsuc 1073741823) (pos unit) k m
whole_between k m h = record {
  least = diff→le (ints_sign 3 (λ k m u.
      claim (m :- neg k ∷ u ∷ u :* k :- neg u :* m ∷ []) (var 2 :- var 1 :* var 0 ∷ []) (is (var 0) ge ∷ is (var 1) gt ∷ []) (var 2) ge) tt k (pos m) (pos unit) (le→diff (above_size k m h)) u_positive);
  most = diff→le (ints_sign 3 (λ k m u. claim (m :- k ∷ u ∷ u :* m :- u :* k ∷ []) (var 2 :- var 1 :* var 0 ∷ [])
      (is (var 0) ge ∷ is (var 1) gt ∷ []) (var 2) ge) tt k (pos m) (pos unit) (le→diff (below_size k m h)) u_positive);
}

pub whole_holds : (P : Point) → InBox whole_sides P
whole_holds P =
    let g = greatest_sizes P in
    record {
      at_x = whole_between P.x (greatest P) g.at_e;
      at_y = whole_between P.y (greatest P) g.at_d;
      at_z = whole_between P.z (greatest P) g.at_f;
    }

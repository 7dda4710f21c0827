-- Azimuths by quarter. Proved, in order: azimuth_first, azimuth_second, azimuth_third, azimuth_fourth; below (every
-- azimuth is below 65,536). Defined: Seen (a direction by its quarter and the two numbers in it). Proved, in order:
-- seen_by; same_cross, same_gap, turned_left (two directions whose azimuths differ by less than half a turn).
use mathlib.Core.Path.{◌≡◌, refl, sym, ap₂, ◌∙◌, subst}
use mathlib.Core.Bool.{false}
use Prim.Native.Nat.{ℕ, zero, suc, ◌+◌, ◌<◌}
use native.Mathlib.Nat.{add_comm}
use native.Mathlib.Omega.{arith}
use lib.IntN.{ℤ, pos, negsuc, ◌-ℤ◌, ◌*ℤ◌}
use lib.Signed.{◌<ℤ◌}
use Rattle.integers.specs.Sign.{sign_of, is_negative}
use Rattle.azimuths.specs.Azimuth.{part_of, azimuth_by, gap_of}
use Rattle.azimuths.proofs.Laws.Part.{part_most, part_within}
use Rattle.azimuths.proofs.Laws.Quarter.{Quarter, first, second, third, fourth, start, ahead, along, up}
use Rattle.azimuths.proofs.Laws.Quarter.{cross_at, turn, gap_at, left_at}

not_negative : (n : ℕ) → is_negative (sign_of (pos n)) ≡ false
not_negative zero = refl
not_negative (suc n) = refl

module _ (m n : ℕ) where
  azimuth_first : azimuth_by (pos m) (pos n) ≡ 0 + part_of n (m + n)
  unfolding azimuth_by
  azimuth_first = rw (not_negative m, not_negative n)

  azimuth_second : azimuth_by (negsuc m) (pos n) ≡ 16384 + part_of (suc m) (suc m + n)
  unfolding azimuth_by
  azimuth_second = rw (not_negative n)

  azimuth_third : azimuth_by (negsuc m) (negsuc n) ≡ 32768 + part_of (suc n) (suc m + suc n)
  unfolding azimuth_by
  azimuth_third = refl

  azimuth_fourth : azimuth_by (pos m) (negsuc n) ≡ 49152 + part_of m (m + suc n)
  unfolding azimuth_by
  azimuth_fourth = rw (not_negative m)

pub below : (u v : ℤ) → azimuth_by u v < 65536
below (pos m) (pos n) = omega (arith, azimuth_first m n, part_most m n (m + n) refl)
below (negsuc m) (pos n) =
    omega (arith, azimuth_second m n, part_most n (suc m) (suc m + n) (add_comm (suc m) n))
below (negsuc m) (negsuc n) = omega (arith, azimuth_third m n, part_most (suc m) (suc n) (suc m + suc n) refl)
below (pos m) (negsuc n) =
    omega (arith, azimuth_fourth m n, part_within (suc n) m (m + suc n) (add_comm m (suc n)) (omega arith))

pub record Seen (u v : ℤ) : Type 0 where
  pub quarter : Quarter
  pub a : ℕ
  pub b : ℕ
  pub d : ℕ
  pub at_along : u ≡ along quarter (pos a) (pos b)
  pub at_up : v ≡ up quarter (pos a) (pos b)
  pub whole : d ≡ a + b
  pub some : 0 < d
  pub azimuth : azimuth_by u v ≡ start quarter + part_of b d

sum_some : (m n : ℕ) → (pos m ≡ pos 0 → pos n ≡ pos 0 → ⊥) → 0 < m + n
sum_some zero zero h = absurd (h refl refl)
sum_some zero (suc n) h = omega arith
sum_some (suc m) n h = omega arith

seen : (q : Quarter) (a b d : ℕ) → let u = along q (pos a) (pos b) in let v = up q (pos a) (pos b) in d ≡ a + b →
    0 < d → azimuth_by u v ≡ start q + part_of b d → Seen u v
seen q a b d e h k = record {
  quarter = q;
  a = a;
  b = b;
  d = d;
  at_along = refl;
  at_up = refl;
  whole = e;
  some = h;
  azimuth = k;
}

pub seen_by : (u v : ℤ) → (u ≡ pos 0 → v ≡ pos 0 → ⊥) → Seen u v
seen_by (pos m) (pos n) h = seen first m n (m + n) refl (sum_some m n h) (azimuth_first m n)
seen_by (negsuc m) (pos n) h = seen second n (suc m) (suc m + n) (omega arith) (omega arith) (azimuth_second m n)
seen_by (negsuc m) (negsuc n) h = seen third (suc m) (suc n) (suc m + suc n) refl (omega arith) (azimuth_third m n)
seen_by (pos m) (negsuc n) h = seen fourth (suc n) m (m + suc n) (omega arith) (omega arith) (azimuth_fourth m n)

module _ {u v w z : ℤ} (s : Seen u v) (t : Seen w z) where
  same_cross : u *ℤ z -ℤ v *ℤ w ≡ cross_at (ahead s.quarter t.quarter) (pos s.a) (pos s.b) (pos t.a)
      (pos t.b)
  same_cross = ap₂ ◌-ℤ◌ (ap₂ ◌*ℤ◌ s.at_along t.at_up) (ap₂ ◌*ℤ◌ s.at_up t.at_along)
      ∙ (turn s.quarter t.quarter).cross (pos s.a) (pos s.b) (pos t.a) (pos t.b)

  same_gap : gap_of (azimuth_by w z) (azimuth_by u v)
      ≡ gap_of (start (ahead s.quarter t.quarter) + part_of t.b t.d) (part_of s.b s.d)
  same_gap = ap₂ gap_of t.azimuth s.azimuth ∙ gap_at s.quarter t.quarter _ _
      (part_most s.a s.b s.d s.whole) (part_most t.a t.b t.d t.whole)

  pub turned_left : 0 < gap_of (azimuth_by w z) (azimuth_by u v) → gap_of (azimuth_by w z) (azimuth_by u v) < 32768 →
      pos 0 <ℤ (u *ℤ z -ℤ v *ℤ w)
  turned_left h k = subst (λ c. pos 0 <ℤ c) (sym same_cross)
      (left_at s.a s.b s.d t.a t.b t.d s.whole t.whole s.some t.some
      (ahead s.quarter t.quarter) (rw same_gap at h) (rw same_gap at k))

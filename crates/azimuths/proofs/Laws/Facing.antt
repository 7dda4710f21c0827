-- The axis that a direction goes along: one of the four, of which it is strictly in front. Defined, in order: front
-- (the coordinate along the axis where a quarter starts), Faced. Proved, in order: front_turned (the opposite axis),
-- faced; start_same (the axis by the azimuth); beside, behind (directions along the same axis, or the opposite one).
use mathlib.Core.Path.{◌≡◌, refl, sym, ap, ap₂, ◌∙◌, subst}
use mathlib.Core.List.{[], ◌∷◌}
use Prim.Native.Nat.{ℕ, zero, suc, ◌+◌, ◌*◌, ◌%◌, ◌≤◌, ◌<◌}
use native.Mathlib.Omega.{arith}
use lib.Dec.{lt→ltb}
use lib.IntN.{ℤ, pos, neg_ℤ, neg_ℤ-neg_ℤ}
use lib.Signed.{◌<ℤ◌, lt_z_yes}
use Rattle.integers.proofs.Polynomial.{var, neg}
use Rattle.integers.proofs.Sign.{is, lt, gt}
use Rattle.integers.proofs.Infer.{claim, ints_sign}
use Rattle.azimuths.specs.Azimuth.{azimuth_by, gap_of}
use Rattle.azimuths.proofs.Laws.Part.{part_within, part_full}
use Rattle.azimuths.proofs.Laws.Quarter.{Quarter, first, second, third, fourth, start, next, along, up}
use Rattle.azimuths.proofs.Laws.Seen.{Seen, below}

abbrev pub front : Quarter → ℤ → ℤ → ℤ
front first u v = u
front second u v = v
front third u v = neg_ℤ u
front fourth u v = neg_ℤ v

pub front_turned : (q : Quarter) (u v : ℤ) → front (next (next q)) u v ≡ neg_ℤ (front q u v)
front_turned first u v = refl
front_turned second u v = refl
front_turned third u v = sym (neg_ℤ-neg_ℤ u)
front_turned fourth u v = sym (neg_ℤ-neg_ℤ v)

-- ---- a direction is between the axis of its quarter and the next one
front_own : (q : Quarter) (a b : ℤ) → front q (along q a b) (up q a b) ≡ a
front_own first a b = refl
front_own second a b = refl
front_own third a b = neg_ℤ-neg_ℤ a
front_own fourth a b = neg_ℤ-neg_ℤ a

front_next : (q : Quarter) (a b : ℤ) → front (next q) (along q a b) (up q a b) ≡ b
front_next first a b = refl
front_next second a b = neg_ℤ-neg_ℤ b
front_next third a b = neg_ℤ-neg_ℤ b
front_next fourth a b = refl

next_start : (q : Quarter) → start q + 16384 < 65536 → start (next q) ≡ start q + 16384
next_start first h = refl
next_start second h = refl
next_start third h = refl
next_start fourth h = absurd (omega arith)

pub record Faced (u v : ℤ) : Type 0 where
  pub axis : Quarter
  pub low : start axis ≤ azimuth_by u v
  pub high : azimuth_by u v < start axis + 16384
  pub ahead : pos 0 <ℤ front axis u v

module _ {u v : ℤ} (s : Seen u v) where
  abbrev q : Quarter
  q = s.quarter

  abbrev a : ℤ
  a = pos s.a

  abbrev b : ℤ
  b = pos s.b

  seen_front : (r : Quarter) → front r u v ≡ front r (along q a b) (up q a b)
  seen_front r = ap₂ (front r) s.at_along s.at_up

  own_axis : 0 < s.a → Faced u v
  own_axis h =
      let part = part_within s.a s.b s.d s.whole h in record {
        axis = q;
        low = omega (arith, s.azimuth);
        high = omega (arith, s.azimuth);
        ahead = subst (λ k. pos 0 <ℤ k) (sym (seen_front q ∙ front_own q a b)) (lt_z_yes (lt→ltb 0 s.a h));
      }

  -- at its quarter's very end
  next_axis : s.a ≡ 0 → Faced u v
  next_axis e =
      let part = part_full s.a s.b s.d s.whole s.some e in
      let after = next_start q (omega (arith, s.azimuth, below u v)) in
      let h : 0 < s.b = omega (arith, s.whole, s.some) in record {
        axis = next q;
        low = omega (arith, s.azimuth);
        high = omega (arith, s.azimuth);
        ahead = subst (λ k. pos 0 <ℤ k) (sym (seen_front (next q) ∙ front_next q a b)) (lt_z_yes (lt→ltb 0 s.b h));
      }

  pub faced : Faced u v
  faced = go s.a refl
    where
      go : (n : ℕ) → s.a ≡ n → Faced u v
      go zero e = next_axis e
      go (suc n) e = own_axis (omega arith)

-- ---- azimuths tell the axis
index : Quarter → ℕ
index first = 0
index second = 1
index third = 2
index fourth = 3

quarter_at : ℕ → Quarter
quarter_at zero = first
quarter_at (suc zero) = second
quarter_at (suc (suc zero)) = third
quarter_at (suc (suc (suc n))) = fourth

at_index : (q : Quarter) → quarter_at (index q) ≡ q
unfolding quarter_at index
at_index first = refl
at_index second = refl
at_index third = refl
at_index fourth = refl

start_index : (q : Quarter) → start q ≡ 16384 * index q
unfolding index
start_index first = refl
start_index second = refl
start_index third = refl
start_index fourth = refl

start_same : (q r : Quarter) → start q < start r + 16384 → start r < start q + 16384 → q ≡ r
start_same q r h k =
    let same : index q ≡ index r = omega (arith, start_index q, start_index r) in
    sym (at_index q) ∙ ap quarter_at same ∙ at_index r

turned_start : (q : Quarter) → start (next (next q)) ≡ (start q + 32768) % 65536
turned_start first = refl
turned_start second = refl
turned_start third = refl
turned_start fourth = refl

negated : (k : ℤ) → pos 0 <ℤ neg_ℤ k → k <ℤ pos 0
negated = ints_sign 1 (λ k. claim (k ∷ []) [] (is (neg (var 0)) gt ∷ []) (var 0) lt) tt

module _ {u v w z : ℤ} (f : Faced u v) (g : Faced w z) where
  same_axis : azimuth_by u v ≡ azimuth_by w z → f.axis ≡ g.axis
  same_axis e = start_same f.axis g.axis (omega arith) (omega arith)

  opposite_axis : gap_of (azimuth_by w z) (azimuth_by u v) ≡ 32768 → g.axis ≡ next (next f.axis)
  opposite_axis h =
      let turned = turned_start f.axis in
      let i = start_index f.axis in
      let j = start_index g.axis in
      let k = below u v in
      let l = below w z in
      start_same g.axis (next (next f.axis)) (omega arith) (omega arith)

  pub beside : azimuth_by u v ≡ azimuth_by w z → pos 0 <ℤ front f.axis w z
  beside e = rw (same_axis e) g.ahead

  pub behind : gap_of (azimuth_by w z) (azimuth_by u v) ≡ 32768 → front f.axis w z <ℤ pos 0
  behind h = negated (front f.axis w z) (subst (λ k. pos 0 <ℤ k)
      (ap (λ r. front r w z) (opposite_axis h) ∙ front_turned f.axis w z) g.ahead)

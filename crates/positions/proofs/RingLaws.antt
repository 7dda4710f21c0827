-- What is kept of a list of positions, and of the bytes so far. Defined: ring_of. Proved, in order: outside_snoc,
-- last_snoc, distant_snoc, ring_snoc (one position more), check_of_ring; small_next, small_walked, done_length (at
-- most one position to a byte).
use mathlib.Core.Path.{◌≡◌, refl, ap, ◌∙◌}
use mathlib.Core.Bool.{Bool, true, false, cond}
use mathlib.Core.List.{List, [], ◌∷◌, ◌++◌}
use Prim.Native.Nat.{ℕ, zero, suc, ◌+◌, ◌-◌, ◌≤◌}
use native.Mathlib.Omega.{arith}
use borrow.Author.Tests.{ne_eqb}
use lib.Dec.{eqb}
use lib.ListN.{length, length-append, get_or}
use Rattle.std.specs.Option.{option_or}
use Rattle.std.specs.Bool.{then_some}
use Rattle.angles.specs.declared.point.Position.{Position}
use Rattle.angles.specs.Point.{is_outside}
use Rattle.positions.specs.declared.number.Pending.{Pending}
use Rattle.positions.specs.declared.ring.Ring.{Ring}
use Rattle.positions.specs.Number.{Small, Walk, fresh, digit_of, is_digit, pending_of, is_end, position_of, stepped}
use Rattle.positions.specs.Number.{walked, held}
use Rattle.positions.specs.Ring.{is_distant, first_outside, distant_after, first_distant, first_of}
use Rattle.positions.specs.Ring.{last_after, last_of, is_ring, ring_check, earliest_of, added_of, check_of}
use Rattle.std.specs.declared.option.Option.{Option}
use Rattle.std.specs.declared.option.Option.TheVariants.{None, Some}

abbrev pub ring_of : List Position → Ring
ring_of ps = record {
  count = length ps;
  first = first_of ps;
  last = last_of ps;
  outside = first_outside 0 ps;
  distant = first_distant ps;
}

-- ---- one position more

pub outside_snoc : (ps : List Position) (p : Position) (i : ℕ) →
    first_outside i (ps ++ (p ∷ [])) ≡ earliest_of (first_outside i ps) (is_outside p) (i + length ps)
unfolding first_outside earliest_of
outside_snoc [] p i = let e : i + 0 ≡ i = omega arith in rw e
outside_snoc (q ∷ qs) p i = go (is_outside q) (outside_snoc qs p (suc i))
  where
    go : (b : Bool) →
        first_outside (suc i) (qs ++ (p ∷ [])) ≡ earliest_of (first_outside (suc i) qs) (is_outside p) (suc i + length qs) →
        cond b (Some i) (first_outside (suc i) (qs ++ (p ∷ [])))
        ≡ earliest_of (cond b (Some i) (first_outside (suc i) qs)) (is_outside p) (i + suc (length qs))
    go true r = refl
    go false r =
        let e : suc i + length qs ≡ i + suc (length qs) = omega arith in
        r ∙ ap (earliest_of (first_outside (suc i) qs) (is_outside p)) e

pub last_snoc : (ps : List Position) (p q : Position) → last_after q (ps ++ (p ∷ [])) ≡ p
unfolding last_after
last_snoc [] p q = refl
last_snoc (r ∷ rs) p q = last_snoc rs p r

pub distant_snoc : (ps : List Position) (p q : Position) (i : ℕ) →
    distant_after i q (ps ++ (p ∷ []))
    ≡ earliest_of (distant_after i q ps) (is_distant (last_after q ps) p) (i + length ps)
unfolding distant_after last_after earliest_of
distant_snoc [] p q i = let e : i + 0 ≡ i = omega arith in rw e
distant_snoc (r ∷ rs) p q i = go (is_distant q r) (distant_snoc rs p r (suc i))
  where
    go : (b : Bool) →
        distant_after (suc i) r (rs ++ (p ∷ []))
        ≡ earliest_of (distant_after (suc i) r rs) (is_distant (last_after r rs) p) (suc i + length rs) →
        cond b (Some i) (distant_after (suc i) r (rs ++ (p ∷ [])))
        ≡ earliest_of (cond b (Some i) (distant_after (suc i) r rs)) (is_distant (last_after r rs) p) (i + suc (length rs))
    go true h = refl
    go false h =
        let e : suc i + length rs ≡ i + suc (length rs) = omega arith in
        h ∙ ap (earliest_of (distant_after (suc i) r rs) (is_distant (last_after r rs) p)) e

positive : (n : ℕ) → suc n ≡ 0 → ⊥
positive n e = omega arith

pub ring_snoc : (ps : List Position) (p : Position) → ring_of (ps ++ (p ∷ [])) ≡ added_of (ring_of ps) p
unfolding added_of first_of last_of last_after first_outside first_distant distant_after earliest_of
ring_snoc [] p = refl
ring_snoc (q ∷ qs) p =
    let n : length (qs ++ (p ∷ [])) ≡ length qs + 1 = length-append qs (p ∷ []) in
    let m : suc (length qs + 1) ≡ suc (length qs) + 1 = omega arith in
    let k : suc (length qs) - 1 ≡ 0 + length qs = omega arith in
    let z : 0 + suc (length qs) ≡ suc (length qs) = omega arith in
    rw (
      ne_eqb (suc (length qs)) 0 (positive (length qs)),
      n,
      m,
      k,
      outside_snoc (q ∷ qs) p 0,
      z,
      last_snoc qs p q,
      distant_snoc qs p q 0,
    )

pub check_of_ring : (ps : List Position) → check_of (ring_of ps) ≡ ring_check ps
unfolding check_of ring_check is_ring
check_of_ring ps = refl

-- ---- the bytes so far

picked : (b : Bool) (p q : Pending) → Small p → Small q → Small (cond b p q)
picked true p q g h = g
picked false p q g h = h

small_digit : (p : Pending) (d : ℕ) → Small p → Small (digit_of held p d)
unfolding digit_of
small_digit p d h = picked (eqb p.unit 0) _ _
    (record { size = omega arith; unit = omega arith })
    (record { size = omega arith; unit = let u = h.unit in omega arith })

pub small_next : (p : Pending) (b : ℕ) → Small p → Small (pending_of held p b)
unfolding pending_of
small_next p b h =
    picked (is_digit b) _ _ (small_digit p (b - 48) h)
    (picked (eqb b 45) _ _ (record { size = h.size; unit = h.unit })
    (picked (eqb b 46) _ _ (record { size = h.size; unit = omega arith })
    (picked (eqb b 44) _ _ (record { size = omega arith; unit = omega arith }) h)))

small_step : (w : Walk) (b : ℕ) → Small w.pending → Small (stepped held w b).pending
unfolding stepped
small_step w b h = go (is_end w.pending b)
  where
    go : (t : Bool) → Small (cond {A = Walk} t
        (record { pending = fresh; done = w.done ++ (position_of w.pending ∷ []) })
        (record { pending = pending_of held w.pending b; done = w.done })).pending
    go true = record { size = omega arith; unit = omega arith }
    go false = small_next w.pending b h

pub small_walked : (text : List ℕ) (i : ℕ) → Small (walked held text i).pending
unfolding walked
small_walked text zero = record { size = omega arith; unit = omega arith }
small_walked text (suc i) = small_step (walked held text i) (get_or text i 0) (small_walked text i)

length_step : (hold : ℕ → ℕ) (w : Walk) (b n : ℕ) → length w.done ≤ n → length (stepped hold w b).done ≤ suc n
unfolding stepped
length_step hold w b n h = go (is_end w.pending b)
  where
    go : (t : Bool) → length (cond {A = Walk} t
        (record { pending = fresh; done = w.done ++ (position_of w.pending ∷ []) })
        (record { pending = pending_of hold w.pending b; done = w.done })).done ≤ suc n
    go true = let e = length-append w.done (position_of w.pending ∷ []) in omega arith
    go false = omega arith

pub done_length : (hold : ℕ → ℕ) (text : List ℕ) (i : ℕ) → length (walked hold text i).done ≤ i
unfolding walked
done_length hold text zero = omega arith
done_length hold text (suc i) = length_step hold (walked hold text i) (get_or text i 0) i (done_length hold text i)

-- The place that was found before, or this one where the test holds.
pub or_earliest : (before : Option ℕ) (test : Bool) (place : ℕ) →
    option_or before (then_some test place) ≡ earliest_of before test place
unfolding earliest_of
or_earliest (Some i) test place = refl
or_earliest None true place = refl
or_earliest None false place = refl

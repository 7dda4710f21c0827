-- What the code holds of a number is all of it, or past the range. Defined: clamp (a number at most 200 degrees in
-- size), clamp_all. Proved, in order: clamp_signed, digit_held, pending_held, step_held, walked_held; outside_clamp,
-- first_clamp, same_clamp, check_clamp; held_check, held_length, held_same.
use mathlib.Core.Path.{◌≡◌, refl, sym, ap, ◌∙◌}
use mathlib.Core.Bool.{Bool, true, false, cond}
use mathlib.Core.List.{List, [], ◌∷◌, ◌++◌}
use Prim.Native.Nat.{ℕ, zero, suc, ◌+◌, ◌-◌, ◌*◌, ◌/◌, ◌<◌, min}
use native.Mathlib.Omega.{arith}
use borrow.Author.Tests.{ltb-true, ltb-false, lt-ltb, le-ltb}
use lib.Dec.{eqb, ltb}
use lib.IntN.{ℤ, pos, negsuc}
use lib.ListN.{length, get_or}
use Rattle.sphere.specs.Point.{is_far}
use Rattle.std.specs.declared.option.Option.{Option}
use Rattle.std.specs.declared.option.Option.TheVariants.{None, Some}
use Rattle.std.specs.declared.result.Result.TheVariants.{Ok}
use Rattle.answer.specs.declared.Reason.TheVariants.{PositionOutside}
use Rattle.answer.specs.Chain.{fails_at}
use Rattle.answer.proofs.Laws.Chain.{then_passed}
use Rattle.angles.specs.declared.point.Position.{Position}
use Rattle.angles.specs.Point.{signed_of, is_outside}
use Rattle.angles.proofs.Numbers.{neither}
use Rattle.positions.specs.declared.number.Pending.{Pending}
use Rattle.positions.specs.Number.{Walk, fresh, digit_of, is_digit, pending_of, is_end, position_of, stepped}
use Rattle.positions.specs.Number.{walked, exact, positions_of, held}
use Rattle.positions.specs.Ring.{first_outside, ring_check}

abbrev clamp : ℤ → ℤ
clamp (pos n) = pos (min n 2000000000)
clamp (negsuc n) = negsuc (min n 1999999999)

abbrev clamp_one : Position → Position
clamp_one p = record { lon = clamp p.lon; lat = clamp p.lat }

clamp_all : List Position → List Position
clamp_all [] = []
clamp_all (p ∷ ps) = clamp_one p ∷ clamp_all ps

abbrev held_pending : Pending → Pending
held_pending p = record {
  negative = p.negative;
  digits = p.digits;
  size = min p.size 2000000000;
  unit = p.unit;
  lon = clamp p.lon;
}

held_walk : Walk → Walk
held_walk w = record { pending = held_pending w.pending; done = clamp_all w.done }

-- ---- one byte more

clamp_signed : (t : Bool) (n : ℕ) → signed_of t (min n 2000000000) ≡ clamp (signed_of t n)
clamp_signed true zero = refl
clamp_signed true (suc n) = let e : min (suc n) 2000000000 ≡ suc (min n 1999999999) = omega arith in rw e
clamp_signed false n = refl

before_point : (s d : ℕ) →
    min (min s 2000000000 * 10 + d * 10000000) 2000000000 ≡ min (s * 10 + d * 10000000) 2000000000
before_point s d = omega arith

after_point : (s x : ℕ) → min (min s 2000000000 + x) 2000000000 ≡ min (s + x) 2000000000
after_point s x = omega arith

digit_held : (p : Pending) (d : ℕ) → digit_of held (held_pending p) d ≡ held_pending (digit_of exact p d)
unfolding digit_of
digit_held p d = go (eqb p.unit 0)
  where
    go : (t : Bool) →
        cond t (record {
          negative = p.negative;
          digits = true;
          size = min (min p.size 2000000000 * 10 + d * 10000000) 2000000000;
          unit = 0;
          lon = clamp p.lon;
        }) (record {
          negative = p.negative;
          digits = true;
          size = min (min p.size 2000000000 + d * (p.unit / 10)) 2000000000;
          unit = p.unit / 10;
          lon = clamp p.lon;
        })
        ≡ held_pending (cond t (record {
          negative = p.negative;
          digits = true;
          size = p.size * 10 + d * 10000000;
          unit = 0;
          lon = p.lon;
        }) (record {
          negative = p.negative;
          digits = true;
          size = p.size + d * (p.unit / 10);
          unit = p.unit / 10;
          lon = p.lon;
        }))
    go true = rw (before_point p.size d)
    go false = rw (after_point p.size (d * (p.unit / 10)))

module _ (p : Pending) where
  abbrev minus : Pending
  minus = record { negative = true; digits = p.digits; size = p.size; unit = p.unit; lon = p.lon }

  abbrev point : Pending
  point = record { negative = p.negative; digits = p.digits; size = p.size; unit = 10000000; lon = p.lon }

  abbrev comma : Pending
  comma = record { negative = false; digits = false; size = 0; unit = 0; lon = signed_of p.negative p.size }

pending_held : (p : Pending) (b : ℕ) → pending_of held (held_pending p) b ≡ held_pending (pending_of exact p b)
unfolding pending_of
pending_held p b = go (is_digit b) (eqb b 45) (eqb b 46) (eqb b 44)
  where
    go : (s t u v : Bool) →
        cond s (digit_of held (held_pending p) (b - 48))
        (cond t (minus (held_pending p))
        (cond u (point (held_pending p)) (cond v (comma (held_pending p)) (held_pending p))))
        ≡ held_pending (cond s (digit_of exact p (b - 48)) (cond t (minus p) (cond u (point p) (cond v (comma p) p))))
    go true t u v = digit_held p (b - 48)
    go false true u v = refl
    go false false true v = refl
    go false false false true = rw (clamp_signed p.negative p.size)
    go false false false false = refl

clamp_snoc : (ps : List Position) (p : Position) → clamp_all (ps ++ (p ∷ [])) ≡ clamp_all ps ++ (clamp_one p ∷ [])
unfolding clamp_all
clamp_snoc [] p = refl
clamp_snoc (q ∷ qs) p = ap (λ (l : List Position). clamp_one q ∷ l) (clamp_snoc qs p)

step_held : (w : Walk) (b : ℕ) → stepped held (held_walk w) b ≡ held_walk (stepped exact w b)
unfolding stepped held_walk is_end
step_held w b = go (is_end w.pending b)
  where
    go : (t : Bool) →
        ◌≡◌ {A = Walk}
        (cond t (record { pending = fresh; done = clamp_all w.done ++ (position_of (held_pending w.pending) ∷ []) })
        (record { pending = pending_of held (held_pending w.pending) b; done = clamp_all w.done }))
        (held_walk (cond t (record { pending = fresh; done = w.done ++ (position_of w.pending ∷ []) })
        (record { pending = pending_of exact w.pending b; done = w.done })))
    go true = rw (
      clamp_snoc w.done (position_of w.pending),
      clamp_signed w.pending.negative
          w.pending.size,
    )
    go false = rw (pending_held w.pending b)

walked_held : (text : List ℕ) (i : ℕ) → walked held text i ≡ held_walk (walked exact text i)
unfolding walked held_walk clamp_all
walked_held text zero = refl
walked_held text (suc i) =
    ap (λ (w : Walk). stepped held w (get_or text i 0)) (walked_held text i) ∙ step_held (walked exact text i)
    (get_or text i 0)

-- ---- the checks

far_min : (k n : ℕ) → k < 2000000000 → ltb k (min n 2000000000) ≡ ltb k n
far_min k n h = go (ltb k n) refl
  where
    go : (t : Bool) → ltb k n ≡ t → ltb k (min n 2000000000) ≡ ltb k n
    go true e = let l = ltb-true k n e in lt-ltb k (min n 2000000000) (omega arith) ∙ sym e
    go false e = let l = ltb-false k n e in le-ltb k (min n 2000000000) (omega arith) ∙ sym e

far_clamp : (k : ℕ) → k < 2000000000 → (z : ℤ) → is_far k (clamp z) ≡ is_far k z
unfolding is_far
far_clamp k h (pos n) = far_min k n h
far_clamp k h (negsuc n) =
    let e : suc (min n 1999999999) ≡ min (suc n) 2000000000 = omega arith in rw e (far_min k (suc n) h)

outside_clamp : (p : Position) → is_outside (clamp_one p) ≡ is_outside p
unfolding is_outside
outside_clamp p = rw (far_clamp 1800000000 (omega arith) p.lon, far_clamp 900000000 (omega arith) p.lat)

first_clamp : (ps : List Position) (i : ℕ) → first_outside i (clamp_all ps) ≡ first_outside i ps
unfolding first_outside clamp_all
first_clamp [] i = refl
first_clamp (p ∷ ps) i = rw (outside_clamp p, first_clamp ps (suc i))

near_clamp : (k : ℕ) → k < 2000000000 → (z : ℤ) → is_far k z ≡ false → clamp z ≡ z
unfolding is_far
near_clamp k h (pos n) e =
    let l = ltb-false k n e in let m : min n 2000000000 ≡ n = omega arith in ap pos m
near_clamp k h (negsuc n) e =
    let l = ltb-false k (suc n) e in let m : min n 1999999999 ≡ n = omega arith in ap negsuc m

inside_clamp : (p : Position) → is_outside p ≡ false → clamp_one p ≡ p
unfolding is_outside
inside_clamp p e =
    let h = neither (is_far 1800000000 p.lon) (is_far 900000000 p.lat) e in
    let a = near_clamp 1800000000 (omega arith) p.lon h.0 in
    let b = near_clamp 900000000 (omega arith) p.lat h.1 in
    λ i. record { lon = a i; lat = b i }

found : (i : ℕ) → Some i ≡ None → ⊥
found i e = let z : ◌≡◌ {A = ℕ} 0 1 = cc in omega arith

same_clamp : (ps : List Position) (i : ℕ) → first_outside i ps ≡ None → clamp_all ps ≡ ps
unfolding first_outside clamp_all
same_clamp [] i e = refl
same_clamp (p ∷ ps) i e = go (is_outside p) refl e (same_clamp ps (suc i))
  where
    go : (t : Bool) → is_outside p ≡ t → cond t (Some i) (first_outside (suc i) ps) ≡ None →
        (first_outside (suc i) ps ≡ None → clamp_all ps ≡ ps) → clamp_one p ∷ clamp_all ps ≡ p ∷ ps
    go true o e r = absurd (found i e)
    go false o e r = λ j. inside_clamp p o j ∷ r e j

check_clamp : (ps : List Position) → ring_check (clamp_all ps) ≡ ring_check ps
unfolding ring_check
check_clamp ps = go (first_outside 0 ps) refl
  where
    go : (f : Option ℕ) → first_outside 0 ps ≡ f → ring_check (clamp_all ps) ≡ ring_check ps
    go None e = ap ring_check (same_clamp ps 0 e)
    go (Some i) e = rw (first_clamp ps 0, e)

none_outside : (f : Option ℕ) → fails_at PositionOutside f ≡ Ok tt → f ≡ None
none_outside None e = refl
none_outside (Some i) e = absurd (let z : ◌≡◌ {A = ℕ} 0 1 = cc in omega arith)

passed_same : (ps : List Position) → ring_check ps ≡ Ok tt → clamp_all ps ≡ ps
unfolding ring_check
passed_same ps h =
    same_clamp ps 0 (none_outside (first_outside 0 ps) (then_passed (fails_at PositionOutside (first_outside 0 ps)) _ h).0)

length_clamp : (ps : List Position) → length (clamp_all ps) ≡ length ps
unfolding clamp_all
length_clamp [] = refl
length_clamp (p ∷ ps) = ap suc (length_clamp ps)

-- ---- the whole text

module _ (text : List ℕ) where
  held_all : (walked held text (length text)).done ≡ clamp_all (positions_of text)
  unfolding positions_of held_walk
  held_all = ap (λ (w : Walk). w.done) (walked_held text (length text))

  pub held_check : ring_check (walked held text (length text)).done ≡ ring_check (positions_of text)
  held_check = ap ring_check held_all ∙ check_clamp (positions_of text)

  pub held_length : length (walked held text (length text)).done ≡ length (positions_of text)
  held_length = ap length held_all ∙ length_clamp (positions_of text)

  pub held_same : ring_check (positions_of text) ≡ Ok tt → (walked held text (length text)).done ≡ positions_of text
  held_same h = held_all ∙ passed_same (positions_of text) h

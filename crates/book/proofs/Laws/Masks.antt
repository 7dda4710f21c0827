-- Sets, zone by zone. Defined: stacked (a mask above i bits of another), stacked_sets, which_on (the book's answer from
-- the sets of its first i zones and from the sheets that follow). Proved, in order: double, shifted, stack_bit,
-- bit_below; zones_below; stack_none, on_start, on_sheet, on_end.
use mathlib.Core.Path.{◌≡◌, refl, sym, ap}
use mathlib.Core.Bool.{Bool, true, false}
use mathlib.Core.List.{List, [], map}
use Prim.Native.Nat.{ℕ, ◌+◌, ◌*◌, ◌^◌, ◌<◌}
use native.Mathlib.Omega.{arith}
use native.Mathlib.Nat.{add-zero, zero-add, zero-mul, one-mul, mul-one, add-mul, mul-add, pow-suc}
use native.Mathlib.Numerals.{add-one}
use Rattle.answer.specs.Refusal.{Answer}
use Rattle.book.specs.declared.sets.Sets.{Sets}
use Rattle.book.specs.declared.sets.Which.{Which}
use Rattle.book.specs.Split.{Split, Whole, Broken, joined}
use Rattle.book.specs.Sets.{is_inside, is_boundary, is_refused, digit, mask_of, sets_of, found_of, broken_by}
use Rattle.book.specs.Sets.{no_zones, Below, with_bit, added_to}
use Rattle.book.specs.Which.{which_after}

-- ---- one mask

abbrev pub stacked : ℕ → ℕ → ℕ → ℕ
stacked i low high = high * 2 ^ i + low

double : (i : ℕ) → 2 ^ (i + 1) ≡ 2 ^ i + 2 ^ i
double i = rw (add-one, pow-suc) (omega arith)

-- Twice a high mask, with a digit below it.
shifted : (high digit power : ℕ) → (high * 2 + digit) * power ≡ high * (power + power) + digit * power
shifted high digit power =
    let twice : high * 2 ≡ high + high = omega arith in
    rw (add-mul, twice, add-mul, mul-add)

pub stack_bit : (t : Bool) (i low high : ℕ) →
    stacked (i + 1) (with_bit t i low) high ≡ stacked i low (high * 2 + digit t)
stack_bit true i low high = rw (double i) (let s = shifted high 1 (2 ^ i) in omega (arith, one-mul (2 ^ i)))
stack_bit false i low high = rw (double i) (let s = shifted high 0 (2 ^ i) in omega (arith, zero-mul (2 ^ i)))

pub bit_below : (t : Bool) (i low : ℕ) → low < 2 ^ i → with_bit t i low < 2 ^ (i + 1)
bit_below true i low h = rw (double i) (omega arith)
bit_below false i low h = rw (double i) (omega arith)

-- ---- the three

pub zones_below : (i : ℕ) (sets : Sets) (answer : Answer) → Below i sets → Below (i + 1) (added_to sets i answer)
zones_below i sets answer b = record {
  inside = bit_below (is_inside answer) i sets.inside b.inside;
  boundary = bit_below (is_boundary answer) i sets.boundary b.boundary;
  refused = bit_below (is_refused answer) i sets.refused b.refused;
}

abbrev pub stacked_sets : ℕ → Sets → Sets → Sets
stacked_sets i low high = record {
  inside = stacked i low.inside high.inside;
  boundary = stacked i low.boundary high.boundary;
  refused = stacked i low.refused high.refused;
}

abbrev pub which_on : (List ℕ → Answer) → ℕ → Sets → Split → Which
which_on answer i low (Whole parts) = found_of (stacked_sets i low (sets_of (map answer parts)))
which_on answer i low (Broken refusal) = broken_by refusal

module _ (answer : List ℕ → Answer) where
  stack_none : (high : ℕ) → stacked 0 0 high ≡ high
  stack_none high = rw (mul-one, add-zero)

  pub on_start : (s : Split) → which_after answer s ≡ which_on answer 0 no_zones s
  on_start (Whole parts) = ap found_of (λ j. record {
    inside = sym (stack_none (mask_of is_inside (map answer parts))) j;
    boundary = sym (stack_none (mask_of is_boundary (map answer parts))) j;
    refused = sym (stack_none (mask_of is_refused (map answer parts))) j;
  })
  on_start (Broken refusal) = refl

  pub on_sheet :
      (i : ℕ) (low : Sets) (part : List ℕ) (s : Split) →
      which_on answer i low (joined part s) ≡ which_on answer (i + 1) (added_to low i (answer part)) s
  unfolding mask_of
  on_sheet i low part (Whole parts) = ap found_of (λ j. record {
    inside = sym (stack_bit (is_inside (answer part)) i low.inside (mask_of is_inside (map answer parts))) j;
    boundary = sym (stack_bit (is_boundary (answer part)) i low.boundary (mask_of is_boundary (map answer parts))) j;
    refused = sym (stack_bit (is_refused (answer part)) i low.refused (mask_of is_refused (map answer parts))) j;
  })
  on_sheet i low part (Broken refusal) = refl

  pub on_end : (i : ℕ) (low : Sets) → which_on answer i low (Whole []) ≡ found_of low
  unfolding mask_of
  on_end i low = ap found_of (λ j. record {
    inside = stack-empty low.inside j;
    boundary = stack-empty low.boundary j;
    refused = stack-empty low.refused j;
  })
    where
      stack-empty : (m : ℕ) → stacked i m 0 ≡ m
      stack-empty m = rw (zero-mul, zero-add)

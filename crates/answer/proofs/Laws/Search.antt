-- Searching, as a loop goes. The test is a parameter: every pass over numbers uses these laws. Of what is left, in
-- order: one_more, none_left, all_left. Of a search: Searched (nothing was found before i), searched_start,
-- searched_step, searched_hit, searched_end, found_none, missed, first_none.
use mathlib.Core.Path.{◌≡◌, refl, sym, ◌∙◌}
use mathlib.Core.Bool.{Bool, true, false, cond}
use Prim.Native.Nat.{ℕ, zero, suc, ◌+◌, ◌-◌, ◌≤◌, ◌<◌}
use native.Mathlib.Numerals.{add-one}
use native.Mathlib.Omega.{arith}
use borrow.Author.Tests.{ltb-true, ltb-false}
use lib.Dec.{ltb}
use Rattle.std.specs.declared.option.Option.{Option}
use Rattle.std.specs.declared.option.Option.TheVariants.{None, Some}
use Rattle.answer.specs.Search.{first_from}

-- What is left of n from i on: one more than from i + 1 on, or nothing.
pub one_more : (i n : ℕ) → i < n → n - i ≡ suc (n - (i + 1))
one_more i n h = omega arith

pub none_left : (i n : ℕ) → n ≤ i → n - i ≡ 0
none_left i n h = omega arith

pub all_left : (n : ℕ) → n - 0 ≡ n
all_left n = omega arith

-- ---- a search

-- The search from i on finds what the whole search finds.
pub record Searched (test : ℕ → Bool) (n i : ℕ) : Type 0 where
  pub rest : first_from test i (n - i) ≡ first_from test 0 n

pub searched_start : (test : ℕ → Bool) (n : ℕ) → Searched test n 0
searched_start test n = record { rest = rw (all_left n) }

module _ {test : ℕ → Bool} {n i : ℕ} (h : i < n) where
  pub searched_step : test i ≡ false → Searched test n i → Searched test n (i + 1)
  unfolding first_from
  searched_step t s = record { rest = sym (rw (one_more i n h, t, add-one i)) ∙ s.rest }

  pub searched_hit : test i ≡ true → Searched test n i → first_from test 0 n ≡ Some i
  unfolding first_from
  searched_hit t s = sym s.rest ∙ rw (one_more i n h, t)

pub searched_end : {test : ℕ → Bool} {n i : ℕ} → n ≤ i → Searched test n i → first_from test 0 n ≡ None
unfolding first_from
searched_end {test} {n} {i} h s = sym s.rest ∙ rw (none_left i n h)

-- At and Nothing are apart.
pub found_none : {p : ℕ} {A : Type 0} → Some p ≡ None → A
found_none e = let z : ◌≡◌ {A = ℕ} 0 1 = cc in absurd (omega arith)

-- Where nothing is found, the test holds nowhere.
pub missed : (t : Bool) (i : ℕ) (rest : Option ℕ) → cond t (Some i) rest ≡ None → (t ≡ false) × (rest ≡ None)
missed true i rest e = found_none e
missed false i rest e = (refl, e)

at_or_after : (i j : ℕ) → i ≤ j → (P : ℕ → Type 0) → P i → (i < j → P j) → P j
at_or_after i j h P p q = go (ltb i j) refl
  where
    go : (t : Bool) → ltb i j ≡ t → P j
    go true t = q (ltb-true i j t)
    go false t = let same : j ≡ i = omega (arith, ltb-false i j t) in rw same p

pub first_none : (test : ℕ → Bool) (i k j : ℕ) → first_from test i k ≡ None → i ≤ j → j < i + k → test j ≡ false
unfolding first_from
first_none test i zero j e h l = absurd (omega arith)
first_none test i (suc k) j e h l =
    let none = missed (test i) i (first_from test (suc i) k) e in
    at_or_after i j h (λ m. test m ≡ false) none.0
    (λ m. first_none test (suc i) k j none.1 (omega arith) (omega arith))

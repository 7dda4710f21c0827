-- The nested search over pairs, as its loops go. Defined: Paired (nothing was found in the rows before i), Row (nor in
-- row i before j). Proved, in order: paired_start, paired_end, row_start, row_step, row_pass (some edges
-- that do not offend), row_hit, row_end.
use mathlib.Core.Path.{◌≡◌, sym, ◌∙◌, ap}
use mathlib.Core.Bool.{Bool, true, false}
use Prim.Native.Nat.{ℕ, suc, ◌+◌, ◌-◌, ◌≤◌, ◌<◌}
use native.Mathlib.Numerals.{add-one}
use native.Mathlib.Omega.{arith}
use Rattle.std.specs.declared.option.Option.TheVariants.{None, Some}
use Rattle.answer.specs.Search.{first_from}
use Rattle.answer.proofs.Laws.Search.{one_more, none_left, all_left}
use Rattle.answer.proofs.Laws.First.{Each, none_first}
use Rattle.answer.proofs.Laws.Blocks.{first_pass}
use Rattle.basin.specs.Pairs.{row_or, pairs_from}

pub record Paired (test : ℕ → ℕ → Bool) (n i : ℕ) : Type 0 where
  pub rest : pairs_from test i (n - i) ≡ pairs_from test 0 n

pub record Row (test : ℕ → ℕ → Bool) (n i j : ℕ) : Type 0 where
  pub rest : first_from (test i) j (n - j) ≡ first_from (test i) (suc i) (n - suc i)

pub paired_start : (test : ℕ → ℕ → Bool) (n : ℕ) → Paired test n 0
paired_start test n = record { rest = rw (all_left n) }

-- The last row is empty: no edge comes after the last one.
pub paired_end : {test : ℕ → ℕ → Bool} {n i : ℕ} → i + 1 ≡ n → Paired test n i → pairs_from test 0 n ≡ None
unfolding pairs_from first_from
paired_end {n = n} {i} e p = let one : n - i ≡ 1 = omega arith in sym p.rest ∙ rw one

pub row_start : (test : ℕ → ℕ → Bool) (n i : ℕ) → Row test n i (i + 1)
row_start test n i = record { rest = rw (add-one i) }

-- Row i, opened.
opened : {test : ℕ → ℕ → Bool} {n i : ℕ} → i < n → Paired test n i →
    row_or i (first_from (test i) (suc i) (n - suc i)) (pairs_from test (suc i) (n - suc i)) ≡ pairs_from test 0 n
unfolding pairs_from
opened {n = n} {i} h p =
    let left : n - (i + 1) ≡ n - suc i = omega arith in sym (rw (one_more i n h, left)) ∙ p.rest

module _ {test : ℕ → ℕ → Bool} {n i j : ℕ} where
  pub row_step : j < n → test i j ≡ false → Row test n i j → Row test n i (j + 1)
  unfolding first_from
  row_step h t r = record { rest = sym (rw (one_more j n h, t, add-one j)) ∙ r.rest }

  pub row_pass : (m : ℕ) → j ≤ m → m ≤ n → Each (λ k. test i k ≡ false) j (m - j) → Row test n i j → Row test n i m
  row_pass m h l all r =
      let split : n - j ≡ (m - j) + (n - m) = omega arith in
      let there : j + (m - j) ≡ m = omega arith in
      let none = none_first (test i) j (m - j) all in
      record {
        rest = sym (rw split (first_pass (test i) j (m - j) (n - m) none ∙ ap (λ k. first_from (test i) k (n - m)) there))
            ∙ r.rest;
      }

  pub row_hit : i < n → j < n → test i j ≡ true → Row test n i j → Paired test n i → pairs_from test 0 n ≡ Some (i, j)
  unfolding first_from
  row_hit low h t r p = sym (opened low p) ∙ ap (λ f. row_or i f (pairs_from test (suc i) (n - suc i))) found
    where
      found : first_from (test i) (suc i) (n - suc i) ≡ Some j
      found = sym r.rest ∙ rw (one_more j n h, t)

  pub row_end : i < n → n ≤ j → Row test n i j → Paired test n i → Paired test n (i + 1)
  unfolding first_from
  row_end low h r p = record {
    rest = rw (add-one i) (sym (ap (λ f. row_or i f (pairs_from test (suc i) (n - suc i))) none) ∙ opened low p);
  }
    where
      none : first_from (test i) (suc i) (n - suc i) ≡ None
      none = sym r.rest ∙ rw (none_left j n h)

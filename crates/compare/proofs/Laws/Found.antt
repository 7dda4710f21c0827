-- What the library's methods find among the numbers below n is what the definitions' search finds. Proved, in order:
-- found_first (of `find`), found_or (of `unwrap_or` after it), all_nowhere (of `all`).
use mathlib.Core.Path.{◌≡◌, refl, sym, ap, ◌∙◌, subst}
use mathlib.Core.Bool.{Bool, true, false, true≢false}
use Prim.Native.Nat.{ℕ, ◌+◌, ◌≤◌, ◌<◌}
use native.Mathlib.Omega.{arith}
use borrow.Author.Tests.{ltb-true, ltb-false}
use lib.Dec.{ltb}
use lib.ListN.{length}
use Rattle.std.specs.Bool.{MatchBool}
use Rattle.std.specs.List.{AllWithin, HoldsAt, range_with_len}
use Rattle.std.specs.Option.{MatchOption, unwrap_or}
use Rattle.std.specs.declared.option.Option.{Option}
use Rattle.std.specs.declared.option.Option.TheVariants.{None, Some}
use Rattle.std.proofs.lemmas.List.FromFn.{length-range_with_len, get_or-range_with_len}
use Rattle.answer.specs.Search.{first_from}
use Rattle.answer.proofs.Laws.First.{Lowest, none_first, first_found}
use Rattle.answer.proofs.Laws.Search.{first_none}
use Rattle.compare.specs.Ring.{is_nowhere, or_else}

one_of : (P : Type 0) (i k : ℕ) → (i < k → P) → (k < i → P) → (i ≡ k → P) → P
one_of P i k f g h = go (ltb i k) refl (ltb k i) refl
  where
    go : (s : Bool) → ltb i k ≡ s → (t : Bool) → ltb k i ≡ t → P
    go true e t d = f (ltb-true i k e)
    go false e true d = g (ltb-true k i d)
    go false e false d = h (omega (arith, ltb-false i k e, ltb-false k i d))

module _ (test : ℕ → Bool) (n : ℕ) where
  pub found_first : (r : Option ℕ) →
      MatchOption r ((k : ℕ) → 0 ≤ k → k < n → test k ≡ false)
      (λ i. (0 ≤ i) × (i < n) × (test i ≡ true) × ((k : ℕ) → 0 ≤ k → k < i → test k ≡ false)) → r ≡ first_from test 0 n
  found_first None h = sym (none_first test 0 n (λ j l m. h j l (omega arith)))
  found_first (Some i) h = go (first_from test 0 n) refl
    where
      same : (k : ℕ) → Lowest test 0 n k → i ≡ k
      same k l = one_of (i ≡ k) i k (λ lt. absurd (true≢false (sym h.2 ∙ l.before i (omega arith) lt)))
          (λ gt. absurd (true≢false (sym l.holds ∙ h.3 k (omega arith) gt))) (λ e. e)

      go : (f : Option ℕ) → first_from test 0 n ≡ f → Some i ≡ f
      go None e = absurd (true≢false (sym h.2 ∙ first_none test 0 n i e (omega arith) (omega (arith, h.1))))
      go (Some k) e = ap Some (same k (first_found test 0 n k e))

  pub all_nowhere : (r : Bool) →
      MatchBool r (AllWithin (λ i. test i ≡ false) (range_with_len 0 n) 0 (length (range_with_len 0 n)))
      ((k : ℕ) × (k < length (range_with_len 0 n)) × HoldsAt (λ i. test i ≡ true) (range_with_len 0 n) k) →
      r ≡ is_nowhere (first_from test 0 n)
  all_nowhere true h = sym (ap is_nowhere (none_first test 0 n (λ j l m. low j (omega arith))))
    where
      low : (j : ℕ) → j < n → test j ≡ false
      low j m =
          let same : 0 + j ≡ j = omega arith in
          subst (λ i. test i ≡ false) (get_or-range_with_len 0 n j 0 m ∙ same)
          (h j 0 (omega arith) (omega (arith, length-range_with_len 0 n)))
  all_nowhere false h = go (first_from test 0 n) refl
    where
      below : h.0 < n
      below = omega (arith, h.1, length-range_with_len 0 n)

      holds : test (0 + h.0) ≡ true
      holds = subst (λ i. test i ≡ true) (get_or-range_with_len 0 n h.0 0 below) (h.2 0)

      go : (f : Option ℕ) → first_from test 0 n ≡ f → false ≡ is_nowhere f
      go None e = absurd (true≢false (sym holds ∙ first_none test 0 n (0 + h.0) e (omega arith) (omega (arith, below))))
      go (Some k) e = refl

pub found_or : (r f : Option ℕ) (n : ℕ) → r ≡ f → unwrap_or r n ≡ or_else f n
found_or r f n e = ap (λ r. unwrap_or r n) e ∙ go f
  where
    go : (f : Option ℕ) → unwrap_or f n ≡ or_else f n
    go None = refl
    go (Some i) = refl

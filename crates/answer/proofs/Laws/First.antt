-- What a search over the numbers from i on says of each of them. Defined: Each (a property of k numbers from i on),
-- Lowest. Proved, in order: each_first, each_rest; none_first (the test fails everywhere: nothing is found),
-- first_found (the lowest). That the test fails where nothing is found is Search.first-none.
use mathlib.Core.Path.{◌≡◌, refl, sym, subst}
use mathlib.Core.Logic.{⊎_elim}
use mathlib.Core.Bool.{Bool, true, false, cond}
use Prim.Native.Nat.{ℕ, zero, suc, ◌+◌, ◌≤◌, ◌<◌}
use native.Mathlib.Omega.{arith}
use native.Mathlib.Nat.{eq-or-lt_of_le}
use Rattle.std.specs.declared.option.Option.TheVariants.{None, Some}
use Rattle.answer.specs.Search.{first_from}
use Rattle.answer.proofs.Laws.Search.{found_none}

-- ---- k numbers from i on, one by one
abbrev pub Each : (ℕ → Type 0) → ℕ → ℕ → Type 0
Each Q i k = (j : ℕ) → i ≤ j → j < i + k → Q j

module _ (Q : ℕ → Type 0) where
  pub each_first : (i k : ℕ) → Each Q i (suc k) → Q i
  each_first i k all = all i (omega arith) (omega arith)

  pub each_rest : (i k : ℕ) → Each Q i (suc k) → Each Q (suc i) k
  each_rest i k all j h l = all j (omega arith) (omega arith)

-- ---- the search
pub record Lowest (test : ℕ → Bool) (i k p : ℕ) : Type 0 where
  pub from : i ≤ p
  pub below : p < i + k
  pub holds : test p ≡ true
  pub before : (j : ℕ) → i ≤ j → j < p → test j ≡ false

same_place : (i p : ℕ) → Some i ≡ Some p → i ≡ p
same_place i p h = cc

module _ (test : ℕ → Bool) where
  pub none_first : (i k : ℕ) → Each (λ j. test j ≡ false) i k → first_from test i k ≡ None
  unfolding first_from
  none_first i zero all = refl
  none_first i (suc k) all =
      rw (each_first (λ j. test j ≡ false) i k all) (none_first (suc i) k (each_rest (λ j. test j ≡ false) i k all))

  lowest_here : (i k : ℕ) → test i ≡ true → Lowest test i (suc k) i
  lowest_here i k e = record {
    from = omega arith;
    below = omega arith;
    holds = e;
    before = λ j h l. absurd (never j h l);
  }
    where
      never : (j : ℕ) → i ≤ j → j < i → ⊥
      never j h l = omega arith

  lowest_later : (i k p : ℕ) → test i ≡ false → Lowest test (suc i) k p → Lowest test i (suc k) p
  lowest_later i k p e r = record {
    from = omega (arith, r.from);
    below = omega (arith, r.below);
    holds = r.holds;
    before = λ j h l. ⊎_elim (λ q. subst (λ j. test j ≡ false) q e) (λ more. r.before j more l) (eq-or-lt_of_le h);
  }

  pub first_found : (i k p : ℕ) → first_from test i k ≡ Some p → Lowest test i k p
  unfolding first_from
  first_found i zero p h = found_none (sym h)
  first_found i (suc k) p h = go (test i) refl h (first_found (suc i) k p)
    where
      go : (b : Bool) → test i ≡ b → cond b (Some i) (first_from test (suc i) k) ≡ Some p →
          (first_from test (suc i) k ≡ Some p → Lowest test (suc i) k p) → Lowest test i (suc k) p
      go true e h rest = subst (λ p. Lowest test i (suc k) p) (same_place i p h) (lowest_here i k e)
      go false e h rest = lowest_later i k p e (rest h)

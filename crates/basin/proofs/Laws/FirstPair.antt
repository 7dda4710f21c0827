-- What the search over pairs says of each pair. Defined: First (the pair that was found). Proved, in order: pairs_none,
-- pairs_found.
use mathlib.Core.Path.{◌≡◌, refl, subst}
use mathlib.Core.Logic.{⊎_elim}
use mathlib.Core.Bool.{Bool, true, false}
use Prim.Native.Nat.{ℕ, zero, suc, ◌+◌, ◌≤◌, ◌<◌}
use native.Mathlib.Omega.{arith}
use native.Mathlib.Nat.{eq-or-lt_of_le}
use Rattle.std.specs.declared.option.Option.{Option}
use Rattle.std.specs.declared.option.Option.TheVariants.{None, Some}
use Rattle.answer.specs.Search.{first_from}
use Rattle.answer.proofs.Laws.First.{Lowest, first_found}
use Rattle.answer.proofs.Laws.Search.{first_none}
use Rattle.basin.specs.Pairs.{row_or, pairs_from}

-- A row that found nothing, and the rest.
row_apart : (i : ℕ) (f : Option ℕ) (later : Option (ℕ × ℕ)) → row_or i f later ≡ None → (f ≡ None) × (later ≡ None)
row_apart i None later e = (refl, e)
row_apart i (Some j) later e = cc

module _ (test : ℕ → ℕ → Bool) where
  pub pairs_none : (i k : ℕ) → pairs_from test i k ≡ None → (h j : ℕ) → i ≤ h → h < j → j < i + k → test h j ≡ false
  unfolding pairs_from
  pairs_none i zero e h j from low below = absurd (omega arith)
  pairs_none i (suc k) e h j from low below =
      let r = row_apart i (first_from (test i) (suc i) k) (pairs_from test (suc i) k) e in
      ⊎_elim (λ q. subst (λ h. test h j ≡ false) q (first_none (test i) (suc i) k j r.0 (omega arith) (omega arith)))
      (λ more. pairs_none (suc i) k r.1 h j more low (omega arith)) (eq-or-lt_of_le from)

  -- the pair that was found, from row i on
  pub record First (i k a b : ℕ) : Type 0 where
    pub from : i ≤ a
    pub order : a < b
    pub below : b < i + k
    pub holds : test a b ≡ true
    pub rows : (h j : ℕ) → i ≤ h → h < a → h < j → j < i + k → test h j ≡ false
    pub row : (j : ℕ) → a < j → j < b → test a j ≡ false

  same_pair : {p q : ℕ × ℕ} → Some p ≡ Some q → p ≡ q
  same_pair e = cc

  here : (i k b : ℕ) → Lowest (test i) (suc i) k b → First i (suc k) i b
  here i k b l = record {
    from = omega arith;
    order = l.from;
    below = omega (arith, l.below);
    holds = l.holds;
    rows = λ h j a b c d. absurd (none h a b);
    row = λ j a c. l.before j a c;
  }
    where
      none : (h : ℕ) → i ≤ h → h < i → ⊥
      none h a b = omega arith

  later : (i k a b : ℕ) → first_from (test i) (suc i) k ≡ None → First (suc i) k a b → First i (suc k) a b
  later i k a b e f = record {
    from = omega (arith, f.from);
    order = f.order;
    below = omega (arith, f.below);
    holds = f.holds;
    rows = λ h j p q r s. ⊎_elim
        (λ z. subst (λ h. test h j ≡ false) z (first_none (test i) (suc i) k j e (omega arith) (omega arith)))
        (λ more. f.rows h j more q r (omega arith)) (eq-or-lt_of_le p);
    row = f.row;
  }

  pub pairs_found : (i k a b : ℕ) → pairs_from test i k ≡ Some (a, b) → First i k a b
  unfolding pairs_from
  pairs_found i zero a b e = cc
  pairs_found i (suc k) a b e = go (first_from (test i) (suc i) k) refl e (pairs_found (suc i) k a b)
    where
      go : (f : Option ℕ) → first_from (test i) (suc i) k ≡ f → row_or i f (pairs_from test (suc i) k) ≡ Some (a, b) →
          (pairs_from test (suc i) k ≡ Some (a, b) → First (suc i) k a b) → First i (suc k) a b
      go (Some j) p e rest =
          subst (λ q. First i (suc k) q.0 q.1) (same_pair e) (here i k j (first_found (test i) (suc i) k j p))
      go None p e rest = later i k a b p (rest e)

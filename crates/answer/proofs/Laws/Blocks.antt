-- Blocks of k numbers from i on, in a search, a count and a sum. Proved, in order: first_pass, first_keep,
-- count_append, sum-append (k numbers and m more); count_bound, count_all, count_none, sum_bound, sum_none.
use mathlib.Core.Path.{◌≡◌, refl, sym, ◌∙◌, ap}
use mathlib.Core.Bool.{Bool, true, false, cond}
use Prim.Native.Nat.{ℕ, zero, suc, ◌+◌, ◌≤◌}
use native.Mathlib.Nat.{le_trans}
use native.Mathlib.Omega.{arith}
use lib.IntN.{ℤ, pos, nat_abs, ◌+ℤ◌, +ℤ_idl, +ℤ_assoc}
use Rattle.integers.proofs.Size.{nat_abs-add}
use Rattle.std.specs.declared.option.Option.TheVariants.{None, Some}
use Rattle.answer.specs.Search.{first_from, count_from, sum_from}
use Rattle.answer.proofs.Laws.Search.{found_none, missed}
use Rattle.answer.proofs.Laws.First.{Each, each_first, each_rest}

more : (k m : ℕ) → suc k + m ≡ suc (k + m)
more k m = omega arith

none : (m : ℕ) → 0 + m ≡ m
none m = omega arith

on : (i k : ℕ) → suc i + k ≡ i + suc k
on i k = omega arith

stay : (i : ℕ) → i + 0 ≡ i
stay i = omega arith

-- ---- k numbers and m more
module _ (test : ℕ → Bool) where
  pub first_pass : (i k m : ℕ) → first_from test i k ≡ None → first_from test i (k + m) ≡ first_from test (i + k) m
  unfolding first_from
  first_pass i zero m e = rw (none m, stay i)
  first_pass i (suc k) m e =
      let miss = missed (test i) i (first_from test (suc i) k) e in
      rw (more k m, miss.0, ← on i k) (first_pass (suc i) k m miss.1)

  pub first_keep : (i k m edge : ℕ) → first_from test i k ≡ Some edge → first_from test i (k + m) ≡ Some edge
  unfolding first_from
  first_keep i zero m edge e = found_none (sym e)
  first_keep i (suc k) m edge e = rw (more k m) (go (test i) e (first_keep (suc i) k m edge))
    where
      go : (t : Bool) → cond t (Some i) (first_from test (suc i) k) ≡ Some edge →
          (first_from test (suc i) k ≡ Some edge → first_from test (suc i) (k + m) ≡ Some edge) →
          cond t (Some i) (first_from test (suc i) (k + m)) ≡ Some edge
      go true e rest = e
      go false e rest = rest e

  pub count_append : (i k m : ℕ) → count_from test i (k + m) ≡ count_from test i k + count_from test (i + k) m
  unfolding count_from
  count_append i zero m = rw (none m, stay i) (sym (none _))
  count_append i (suc k) m = rw (more k m, ← on i k, count_append (suc i) k m) (go (test i) _ _)
    where
      go : (t : Bool) (a b : ℕ) → cond t (suc (a + b)) (a + b) ≡ cond t (suc a) a + b
      go true a b = omega arith
      go false a b = refl

pub sum-append : (term : ℕ → ℤ) (i k m : ℕ) → sum_from term i (k + m) ≡ sum_from term i k +ℤ sum_from term (i + k) m
unfolding sum_from
sum-append term i zero m = rw (none m, stay i) (sym (+ℤ_idl _))
sum-append term i (suc k) m =
    rw (more k m, ← on i k, sum-append term (suc i) k m) (sym (+ℤ_assoc (term i) (sum_from term (suc i) k) _))

-- ---- bounds, and blocks of which all or none pass
one_or_none : (t : Bool) (a k : ℕ) → a ≤ k → cond t (suc a) a ≤ suc k
one_or_none true a k h = omega arith
one_or_none false a k h = omega arith

module _ (test : ℕ → Bool) where
  pub count_bound : (i k : ℕ) → count_from test i k ≤ k
  unfolding count_from
  count_bound i zero = omega arith
  count_bound i (suc k) = one_or_none (test i) _ k (count_bound (suc i) k)

  pub count_all : (i k : ℕ) → Each (λ j. test j ≡ true) i k → count_from test i k ≡ k
  unfolding count_from
  count_all i zero all = refl
  count_all i (suc k) all =
      rw (each_first (λ j. test j ≡ true) i k all)
      (ap suc (count_all (suc i) k (each_rest (λ j. test j ≡ true) i k all)))

  pub count_none : (i k : ℕ) → Each (λ j. test j ≡ false) i k → count_from test i k ≡ 0
  unfolding count_from
  count_none i zero all = refl
  count_none i (suc k) all =
      rw (each_first (λ j. test j ≡ false) i k all)
      (count_none (suc i) k (each_rest (λ j. test j ≡ false) i k all))

module _ (term : ℕ → ℤ) where
  pub sum_bound : ((j : ℕ) → nat_abs (term j) ≤ 1) → (i k : ℕ) → nat_abs (sum_from term i k) ≤ k
  unfolding sum_from
  sum_bound unit i zero = omega arith
  sum_bound unit i (suc k) =
      le_trans (nat_abs-add (term i) (sum_from term (suc i) k)) (omega (arith, unit i, sum_bound unit (suc i) k))

  pub sum_none : (i k : ℕ) → Each (λ j. term j ≡ pos 0) i k → sum_from term i k ≡ pos 0
  unfolding sum_from
  sum_none i zero all = refl
  sum_none i (suc k) all =
      rw (each_first (λ j. term j ≡ pos 0) i k all)
      (+ℤ_idl _ ∙ sum_none (suc i) k (each_rest (λ j. term j ≡ pos 0) i k all))

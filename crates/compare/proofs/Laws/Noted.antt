-- The fields that differ, noted one by one. Proved, in order: differing_bound (there is room), noted_more
-- (one number more), differing_snoc, noted_step (one field more); pushed_count.
use mathlib.Core.Path.{◌≡◌, refl, sym, ap, ◌∙◌}
use mathlib.Core.Bool.{Bool, true, false, cond}
use mathlib.Core.List.{List, [], ◌∷◌, ◌++◌, append_assoc, append-nil}
use Prim.Native.Nat.{ℕ, suc, ◌+◌, ◌-◌, ◌≤◌, ◌<◌}
use native.Mathlib.Omega.{arith}
use lib.ListN.{length, set, replicate, length-append}
use lib.Seq.{set_at}
use Rattle.compare.specs.declared.differences.Field.{Field}
use Rattle.compare.specs.declared.differences.Differences.{Differences}
use Rattle.compare.specs.Differences.{field_number, differing, filled, noted, pushed}

module _ (test : Field → Bool) where
  pub differing_bound : (fs : List Field) → length (differing test fs) ≤ length fs
  unfolding differing
  differing_bound [] = omega arith
  differing_bound (f ∷ fs) = go (test f) (differing_bound fs)
    where
      go : (t : Bool) → length (differing test fs) ≤ length fs →
          length (cond t (field_number f ∷ differing test fs) (differing test fs)) ≤ suc (length fs)
      go true h = omega arith
      go false h = omega arith

  -- The field's number, if it differs.
  abbrev told : Field → List ℕ
  told f = cond (test f) (field_number f ∷ []) []

  differing_snoc : (fs : List Field) (f : Field) → differing test (fs ++ (f ∷ [])) ≡ differing test fs ++ told f
  unfolding differing
  differing_snoc [] f = go (test f)
    where
      go : (t : Bool) → cond t (field_number f ∷ []) [] ≡ cond t (field_number f ∷ []) []
      go t = refl
  differing_snoc (g ∷ fs) f = go (test g) (differing_snoc fs f)
    where
      go : (t : Bool) → differing test (fs ++ (f ∷ [])) ≡ differing test fs ++ told f →
          cond t (field_number g ∷ differing test (fs ++ (f ∷ []))) (differing test (fs ++ (f ∷ [])))
          ≡ cond t (field_number g ∷ differing test fs) (differing test fs) ++ told f
      go true e = ap (λ (l : List ℕ). field_number g ∷ l) e
      go false e = e

-- ---- one number more
module _ (ns : List ℕ) (k : ℕ) (room : length ns < 7) where
  after : filled ns ≡ ns ++ 0 ∷ replicate (6 - length ns) 0
  after =
      let more : 7 - length ns ≡ suc (6 - length ns) = omega arith in
      ap (λ (n : ℕ). ns ++ replicate n 0) more

  stored : set (filled ns) (length ns) k ≡ filled (ns ++ (k ∷ []))
  stored =
      let size = length-append ns (k ∷ []) in
      let left : 7 - length (ns ++ (k ∷ [])) ≡ 6 - length ns = omega arith in
      ap (λ (l : List ℕ). set l (length ns) k) after
      ∙ set_at ns 0 (replicate (6 - length ns) 0) k (length ns) refl
      ∙ sym (append_assoc ns (k ∷ []) (replicate (6 - length ns) 0))
      ∙ ap (λ (n : ℕ). (ns ++ (k ∷ [])) ++ replicate n 0) (sym left)

  noted_more : (t : Bool) → pushed (noted ns) k t ≡ noted (ns ++ cond t (k ∷ []) [])
  unfolding pushed
  noted_more true = λ i. record { numbers = stored i; count = sym (length-append ns (k ∷ [])) i }
  noted_more false = ap noted (sym (append-nil ns))

-- ---- one field more
pub noted_step :
    (test : Field → Bool) (fs : List Field) (f : Field) {d r : Differences} {other : Bool} → length fs < 7 →
    d ≡ noted (differing test fs) → other ≡ test f → r ≡ pushed d (field_number f) other →
    r ≡ noted (differing test (fs ++ (f ∷ [])))
noted_step test fs f room before same e =
    e ∙ (λ i. pushed (before i) (field_number f) (same i))
    ∙ noted_more (differing test fs) (field_number f) (omega (arith, differing_bound test fs)) (test f)
    ∙ ap noted (sym (differing_snoc test fs f))

-- One field more is one number more at most.
pub pushed_count : (d : Differences) (k : ℕ) (other : Bool) → (pushed d k other).count ≤ d.count + 1
unfolding pushed
pushed_count d k true = omega arith
pushed_count d k false = omega arith

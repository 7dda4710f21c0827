-- The claim of specs/Claims on the fields, proved: fields_exact. The claims on rings are in proofs/RingClaims.
use mathlib.Core.Path.{◌≡◌, refl, ap, ◌∙◌}
use mathlib.Core.Bool.{Bool, true, false}
use mathlib.Core.List.{List, [], ◌∷◌}
use Prim.{Unit}
use Prim.Native.Nat.{ℕ, zero, suc, ◌+◌, ◌-◌, ◌≤◌, ◌<◌}
use native.Mathlib.Omega.{arith}
use borrow.Author.Tests.{ltb-true, ltb-false}
use lib.Dec.{ltb, lit<}
use lib.ListN.{length, get_or, replicate, length-append, length-replicate, get_or-replicate, get_or-append}
use lib.ListN.{get_or-eq_default}
use lib.Seq.{get_or-append-add}
use Rattle.big_endian.specs.Bytes.{byte_at}
use Rattle.std.specs.declared.result.Result.TheVariants.{Ok, Err}
use Rattle.answer.specs.Refusal.{Check}
use Rattle.answer.specs.Chain.{◌then◌}
use Rattle.answer.proofs.Laws.Chain.{then_passed}
use Rattle.answer.proofs.Laws.Numbers.{Numbered, ◌both◌}
use Rattle.sheet.specs.Sheet.{sheet_check}
use Rattle.sheet.proofs.Laws.Numbers.{Above, above_sheet}
use Rattle.compare.specs.declared.differences.Field.{Field}
use Rattle.compare.specs.declared.differences.Field.TheVariants.{ZoneNumber, CharacterSet, Name, KnownPoint, Vertices}
use Rattle.compare.specs.declared.differences.Field.TheVariants.{WhichGrid, SecondPoint}
use Rattle.compare.specs.Differences.{field_number, all_fields, differs, differing}
use Rattle.compare.specs.Differences.{differences_of, filled}
use Rattle.compare.specs.Comparison.{compared_after, comparison_of}
use Rattle.compare.specs.Claims.{Same, Exact, FieldsExact}
use Rattle.compare.proofs.Laws.Noted.{differing_bound}
use Rattle.compare.proofs.Fields.{untold_same, told_other}

-- ---- which numbers stand in the list of those that differ
data In (f : Field) : List Field → Type 0 where
  here : {fs : List Field} → In f (f ∷ fs)
  later : {g : Field} {fs : List Field} → In f fs → In f (g ∷ fs)

all_in : (f : Field) → In f all_fields
all_in ZoneNumber = here
all_in CharacterSet = later here
all_in Name = later (later here)
all_in KnownPoint = later (later (later here))
all_in Vertices = later (later (later (later here)))
all_in WhichGrid = later (later (later (later (later here))))
all_in SecondPoint = later (later (later (later (later (later here)))))

-- The numbers rise along a list of fields, from above m on.
abbrev Rising : ℕ → List Field → Type 0
Rising m [] = Unit {0}
Rising m (f ∷ fs) = (m < field_number f) × Rising (field_number f) fs

all_rise : Rising 0 all_fields
all_rise = (lit< tt, (lit< tt, (lit< tt, (lit< tt, (lit< tt, (lit< tt, (lit< tt, tt)))))))

module _ (test : Field → Bool) where
  -- A number of the list, where it stands.
  record Told (fs : List Field) (f : Field) : Type 0 where
    at : ℕ
    below : at < length (differing test fs)
    stands : get_or (differing test fs) at 0 ≡ field_number f

  record Telling (fs : List Field) (i : ℕ) : Type 0 where
    field : Field
    named : get_or (differing test fs) i 0 ≡ field_number field
    other : test field ≡ true

  every : (fs : List Field) (f : Field) → In f fs → test f ≡ true → Told fs f
  unfolding differing
  every [] f i e = elim i [ ]
  every (f ∷ fs) f' here e = record { at = 0; below = rw e (omega arith); stands = rw e }
  every (g ∷ fs) f (later i) e = go (test g) refl (every fs f i e)
    where
      go : (t : Bool) → test g ≡ t → Told fs f → Told (g ∷ fs) f
      go true q r = record { at = suc r.at; below = rw q (omega (arith, r.below)); stands = rw q r.stands }
      go false q r = record { at = r.at; below = rw q r.below; stands = rw q r.stands }

  -- One field more in front.
  told_past : (f : Field) (fs : List Field) (i : ℕ) → test f ≡ true → Telling fs i → Telling (f ∷ fs) (suc i)
  unfolding differing
  told_past f fs i q r = record { field = r.field; named = rw q r.named; other = r.other }

  untold_past : (f : Field) (fs : List Field) (i : ℕ) → test f ≡ false → Telling fs i → Telling (f ∷ fs) i
  unfolding differing
  untold_past f fs i q r = record { field = r.field; named = rw q r.named; other = r.other }

  only : (fs : List Field) (i : ℕ) → i < length (differing test fs) → Telling fs i
  unfolding differing
  only [] i h = absurd (omega arith)
  only (f ∷ fs) i h = go (test f) refl (only fs) i h
    where
      go : (t : Bool) → test f ≡ t → ((i : ℕ) → i < length (differing test fs) → Telling fs i) →
          (i : ℕ) → i < length (differing test (f ∷ fs)) → Telling (f ∷ fs) i
      go true q more zero l = record { field = f; named = rw q; other = q }
      go true q more (suc i) l = told_past f fs i q (more i (omega (arith, rw q at l)))
      go false q more i l = untold_past f fs i q (more i (rw q at l))

  above : (m : ℕ) (fs : List Field) → Rising m fs → (i : ℕ) → i < length (differing test fs) →
      m < get_or (differing test fs) i 0
  unfolding differing
  above m [] r i h = absurd (omega arith)
  above m (f ∷ fs) r i h = go (test f) refl (above (field_number f) fs r.1) i h
    where
      go : (t : Bool) → test f ≡ t →
          ((i : ℕ) → i < length (differing test fs) → field_number f < get_or (differing test fs) i 0) →
          (i : ℕ) → i < length (differing test (f ∷ fs)) → m < get_or (differing test (f ∷ fs)) i 0
      go true q more zero l = rw q r.0
      go true q more (suc i) l = rw q (omega (arith, r.0, more i (omega (arith, rw q at l))))
      go false q more i l = rw q (omega (arith, r.0, more i (rw q at l)))

  rises : (m : ℕ) (fs : List Field) → Rising m fs → (i j : ℕ) → i < j → j < length (differing test fs) →
      get_or (differing test fs) i 0 < get_or (differing test fs) j 0
  unfolding differing
  rises m [] r i j h l = absurd (omega arith)
  rises m (f ∷ fs) r i j h l = go (test f) refl (rises (field_number f) fs r.1) i j h l
    where
      go : (t : Bool) → test f ≡ t →
          ((i j : ℕ) → i < j → j < length (differing test fs) →
          get_or (differing test fs) i 0 < get_or (differing test fs) j 0) →
          (i j : ℕ) → i < j → j < length (differing test (f ∷ fs)) →
          get_or (differing test (f ∷ fs)) i 0 < get_or (differing test (f ∷ fs)) j 0
      go true q more i zero h l = absurd (omega arith)
      go true q more zero (suc j) h l = rw q (above (field_number f) fs r.1 j (omega (arith, rw q at l)))
      go true q more (suc i) (suc j) h l = rw q (more i j (omega arith) (omega (arith, rw q at l)))
      go false q more i j h l = rw q (more i j h (rw q at l))

-- ---- seven bytes of them
module _ (ns : List ℕ) (few : length ns ≤ 7) where
  filled_length : length (filled ns) ≡ 7
  filled_length =
      let rest = length-replicate {A = ℕ} (7 - length ns) 0 in
      let all = length-append ns (replicate (7 - length ns) 0) in
      omega arith

  filled_front : (i : ℕ) → i < length ns → byte_at (filled ns) i ≡ get_or ns i 0
  filled_front i h = get_or-append ns (replicate (7 - length ns) 0) 0 i h

  abbrev none : ℕ
  none = 0

  zeros : (n i : ℕ) → get_or (replicate n none) i none ≡ none
  zeros n i = go (ltb i n) refl
    where
      go : (t : Bool) → ltb i n ≡ t → get_or (replicate n none) i none ≡ none
      go true e = get_or-replicate n i none none (ltb-true i n e)
      go false e =
          get_or-eq_default (replicate n none) none (omega (arith, length-replicate n none, ltb-false i n e))

  filled_rest : (i : ℕ) → length ns ≤ i → byte_at (filled ns) i ≡ 0
  filled_rest i h =
      let k : i ≡ length ns + (i - length ns) = omega arith in
      ap (byte_at (filled ns)) k ∙ get_or-append-add ns (replicate (7 - length ns) 0) (i - length ns) 0
      ∙ zeros (7 - length ns) (i - length ns)

-- ---- two sheets that are accepted
checks : (b c : List ℕ) → (comparison_of b c).number ≡ 0 → (sheet_check b then sheet_check c) ≡ Ok tt
unfolding comparison_of
checks b c e = go (sheet_check b then sheet_check c) (above_sheet b both above_sheet c) e
  where
    go : (k : Check) → Numbered (Above 10) k → (compared_after k b c).number ≡ 0 → k ≡ Ok tt
    go (Ok unit) h e = refl
    go (Err refusal) h e = absurd (omega (arith, h.each refusal refl))

module _ (b c : List ℕ) (left : sheet_check b ≡ Ok tt) (right : sheet_check c ≡ Ok tt) where
  abbrev ns : List ℕ
  ns = differing (differs b c) all_fields

  few : length ns ≤ 7
  few = omega (arith, differing_bound (differs b c) all_fields)

  differ : (f : Field) → (Same b c f → ⊥) → differs b c f ≡ true
  differ f apart = go (differs b c f) refl
    where
      go : (t : Bool) → differs b c f ≡ t → t ≡ true
      go true e = refl
      go false e = absurd (apart (untold_same b c left right f e))

  exact : Exact b c (filled ns) (length ns)
  exact = record {
    seven = filled_length ns few;
    every_one = λ f apart. let t = every (differs b c) all_fields f (all_in f) (differ f apart) in
        record { at = t.at; below = t.below; stands = filled_front ns few t.at t.below ∙ t.stands };
    no_other = λ i h. let t = only (differs b c) all_fields i h in
        record {
          field = t.field;
          named = filled_front ns few i h ∙ t.named;
          other = told_other b c left right t.field t.other;
        };
    rising = λ i j h l.
        rw (filled_front ns few i (omega arith), filled_front ns few j l)
        (rises (differs b c) 0 all_fields all_rise i j h l);
    rest = filled_rest ns few;
  }

pub fields_exact : FieldsExact
unfolding comparison_of differences_of
fields_exact b c e =
    let passed = then_passed (sheet_check b) (sheet_check c) (checks b c e) in
    rw (checks b c e) (exact b c passed.0 passed.1)

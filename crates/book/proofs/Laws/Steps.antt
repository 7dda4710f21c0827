-- One step of the walk. Proved, in order: rest_of; step_past, step_passed, step_failed (what the step says in each
-- case); SheetAt, sheet_at, part_sound, part_five, end_at, RefusedAt, refused_step (and back); next_sheet, next_within.
use mathlib.Core.Path.{◌≡◌, refl, sym, ◌∙◌, ap, subst}
use mathlib.Core.Logic.{◌⊎◌, inl, inr}
use mathlib.Core.Bool.{Bool, true, false, cond}
use mathlib.Core.List.{List}
use Prim.Native.Nat.{ℕ, ◌+◌, ◌-◌, ◌≤◌, ◌<◌}
use native.Mathlib.Omega.{arith}
use borrow.Author.Tests.{lt-ltb, le-ltb, ltb-true, ltb-false}
use lib.Dec.{ltb}
use lib.ListN.{length, take, drop, length-drop}
use lib.Seq.{take_all}
use Rattle.std.specs.declared.option.Option.TheVariants.{None, Some}
use Rattle.std.specs.declared.result.Result.TheVariants.{Ok, Err}
use Rattle.answer.specs.Refusal.{reason_number, refused_at}
use Rattle.answer.specs.declared.Refusal.{Refusal}
use Rattle.answer.specs.Refusal.{Check}
use Rattle.fields.specs.Fields.{five_fields, sheet_fields, sheet_end, fields_check}
use Rattle.fields.proofs.Laws.Fields.{end_within}
use Rattle.fields.proofs.Laws.Front.{refuses_front}
use Rattle.fields.proofs.Laws.Same.{cut_out}
use Rattle.sheet.proofs.Laws.Reads.{fields_five}
use Rattle.book.specs.Step.{Step, step_place_of, step_count_of}
use Rattle.book.specs.Step.{step_after, step_at, next_at}
use Rattle.book.specs.Split.{part_of}

-- The part of a slice from `at` on.
pub rest_of : (book : List ℕ) (at : ℕ) → take (length book - at) (drop at book) ≡ drop at book
rest_of book at = take_all (length book - at) (drop at book) (rw length-drop (omega arith))

module _ (book : List ℕ) (at : ℕ) where
  pub step_past : length book ≤ at → step_at book at ≡ Ok None
  unfolding step_at
  step_past h = rw (le-ltb at (length book) h)

  pub step_passed :
      at < length book → sheet_fields (drop at book) ≡ Ok tt → step_at book at ≡ Ok (Some (at, (sheet_end (drop at book))))
  unfolding step_at
  step_passed h e = rw (lt-ltb at (length book) h, e)

  pub step_failed :
      {refusal : Refusal} → at < length book → sheet_fields (drop at book) ≡ Err refusal →
      step_at book at ≡ Err (refused_at refusal.reason (at + refusal.place))
  unfolding step_at
  step_failed h e = rw (lt-ltb at (length book) h, e)

-- What is so where the step finds a sheet.
pub record SheetAt (book : List ℕ) (at start size : ℕ) : Type 0 where
  pub starts : start ≡ at
  pub ends : size ≡ sheet_end (drop at book)
  pub sound : sheet_fields (drop at book) ≡ Ok tt
  pub within : at + size ≤ length book

same_sheet : {a b c d : ℕ} → ◌≡◌ {A = Step} (Ok (Some (a, b))) (Ok (Some (c, d))) → (a ≡ c) × (b ≡ d)
same_sheet e = (ap step_place_of e, ap step_count_of e)

pub sheet_at : {start size : ℕ} (book : List ℕ) (at : ℕ) → step_at book at ≡ Ok (Some (start, size)) →
    SheetAt book at start size
unfolding step_at
sheet_at {start} {size} book at e = go (ltb at (length book)) (sheet_fields (drop at book)) refl refl e
  where
    go : (t : Bool) (c : Check) → ltb at (length book) ≡ t → sheet_fields (drop at book) ≡ c →
        cond t (step_after c at (sheet_end (drop at book))) (Ok None) ≡ Ok (Some (start, size)) → SheetAt book at start size
    go true (Ok unit) h s e =
        let z = same_sheet e in
        let l = ltb-true at (length book) h in
        let w = rw length-drop at (end_within (drop at book) s) in
        record { starts = sym z.0; ends = sym z.1; sound = s; within = omega arith }
    go true (Err refusal) h s e = let z : ◌≡◌ {A = ℕ} 0 1 = cc in absurd (omega arith)
    go false c h s e = let z : ◌≡◌ {A = ℕ} 0 1 = cc in absurd (omega arith)

-- By itself it passes 20 to 24.
pub part_sound : {start size : ℕ} (book : List ℕ) (at : ℕ) → step_at book at ≡ Ok (Some (start, size)) →
    fields_check (part_of book at size) ≡ Ok tt
part_sound book at e =
    let s = sheet_at book at e in
    ap (λ n. fields_check (take n (drop at book))) s.ends ∙ cut_out (drop at book) s.sound

pub part_five : {start size : ℕ} (book : List ℕ) (at : ℕ) → step_at book at ≡ Ok (Some (start, size)) →
    five_fields (part_of book at size) ≡ Ok tt
part_five {start} {size} book at e = fields_five (part_of book at size) (part_sound book at e)

-- What is so where it finds none.
pub end_at : (book : List ℕ) (at : ℕ) → step_at book at ≡ Ok None → length book ≤ at
unfolding step_at
end_at book at e = go (ltb at (length book)) (sheet_fields (drop at book)) refl e
  where
    go : (t : Bool) (c : Check) → ltb at (length book) ≡ t →
        cond t (step_after c at (sheet_end (drop at book))) (Ok None) ≡ Ok None → length book ≤ at
    go true (Ok unit) h e = let z : ◌≡◌ {A = ℕ} 0 1 = cc in absurd (omega arith)
    go true (Err refusal) h e = let z : ◌≡◌ {A = ℕ} 0 1 = cc in absurd (omega arith)
    go false c h e = ltb-false at (length book) h

pub record RefusedAt (book : List ℕ) (at : ℕ) (refusal : Refusal) : Type 0 where
  pub low : 20 ≤ reason_number refusal.reason
  pub high : reason_number refusal.reason ≤ 23
  pub within : refusal.place ≤ length book
  pub stays : next_at book at ≡ at

same_refusal : {q r : Refusal} → ◌≡◌ {A = Step} (Err q) (Err r) → q ≡ r
same_refusal e = cc

pub refused_step : {refusal : Refusal} (book : List ℕ) (at : ℕ) → step_at book at ≡ Err refusal →
    RefusedAt book at refusal
unfolding step_at next_at
refused_step {refusal} book at e = go (ltb at (length book)) (sheet_fields (drop at book)) refl refl e
  where
    go : (t : Bool) (c : Check) → ltb at (length book) ≡ t → sheet_fields (drop at book) ≡ c →
        cond t (step_after c at (sheet_end (drop at book))) (Ok None) ≡ Err refusal → RefusedAt book at refusal
    go true (Ok unit) h s f = let z : ◌≡◌ {A = ℕ} 0 1 = cc in absurd (omega arith)
    go true (Err first) h s f =
        let l = ltb-true at (length book) h in
        let r = (refuses_front (drop at book)).refusal first s in
        let w = rw length-drop at r.2 in
        let z : RefusedAt book at (refused_at first.reason (at + first.place)) = record {
          low = r.0;
          high = r.1;
          within = omega arith;
          stays = rw e (omega arith);
        } in
        subst (RefusedAt book at) (same_refusal f) z
    go false c h s f = let z : ◌≡◌ {A = ℕ} 0 1 = cc in absurd (omega arith)

pub next_sheet : {start size : ℕ} (book : List ℕ) (at : ℕ) → step_at book at ≡ Ok (Some (start, size)) →
    next_at book at ≡ at + size
unfolding next_at
next_sheet book at e = rw e

-- A walk that begins in the book stays in it, and each place fits a word.
pub next_within : (book : List ℕ) (at : ℕ) → (next_at book at ≡ at) ⊎ (next_at book at ≤ length book)
unfolding next_at
next_within book at = go (step_at book at) refl
  where
    go : (s : Step) → step_at book at ≡ s → (next_at book at ≡ at) ⊎ (next_at book at ≤ length book)
    go (Ok (Some (start, size))) e = inr (rw e (sheet_at book at e).within)
    go (Err refusal) e = inl (rw e (omega arith))
    go (Ok None) e = inl (rw e (omega arith))

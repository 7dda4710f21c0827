-- What the reader visits. Defined: From (the sheets from a place on). Proved, in order: nothing_left, sheet_first,
-- whole_same, split_from_lem; place_suc; reader_visits, reader_stays, parts_are_sheets.
use mathlib.Core.Path.{◌≡◌, refl, sym, ap, ◌∙◌, subst}
use mathlib.Core.Bool.{Bool, true, false, cond}
use mathlib.Core.List.{List, [], ◌∷◌, ◌++◌}
use Prim.Native.Nat.{ℕ, zero, suc, ◌+◌, ◌≤◌, ◌<◌}
use native.Mathlib.Omega.{arith}
use borrow.Author.Tests.{ltb-false}
use lib.Dec.{ltb}
use lib.ListN.{length, take, drop, length-append, length-drop, take-append-drop, drop_of_length-le}
use lib.Seq.{length-take-le, drop-drop}
use Rattle.answer.specs.declared.Reason.TheVariants.{ManySheets}
use Rattle.answer.specs.Refusal.{refused_at}
use Rattle.std.specs.declared.option.Option.TheVariants.{None, Some}
use Rattle.fields.specs.Fields.{fields_check}
use Rattle.book.specs.Step.{Step}
use Rattle.book.specs.Step.{step_at, next_at}
use Rattle.book.specs.Split.{Split, Whole, Broken, part_of, joined, split_from}
use Rattle.book.specs.Claims.{zone_at, flat, place_of_part, visited, ReaderVisits, ReaderStays, PartsAreSheets}
use Rattle.book.proofs.Laws.Steps.{step_past, sheet_at, part_sound, end_at, refused_step, next_sheet}
use Rattle.book.proofs.Laws.Splits.{split_sheet, split_refused, split_end}
use Rattle.std.specs.declared.result.Result.TheVariants.{Err, Ok}

-- The sheets from `at` on, of which there may be `left`.
pub record From (left : ℕ) (book : List ℕ) (at : ℕ) (parts : List (List ℕ)) : Type 0 where
  pub few : length parts ≤ left
  pub all : flat parts ≡ drop at book
  pub sheets : (i : ℕ) → i < length parts →
      (step_at book (at + place_of_part parts i) ≡ Ok (Some ((at + place_of_part parts i), (length (zone_at parts i)))))
      × (part_of book (at + place_of_part parts i) (length (zone_at parts i)) ≡ zone_at parts i)
  pub ends : step_at book (at + place_of_part parts (length parts)) ≡ Ok None

nothing_left : (left : ℕ) (book : List ℕ) (at : ℕ) → length book ≤ at → From left book at []
unfolding flat
nothing_left left book at h = record {
  few = omega arith;
  all = sym (drop_of_length-le book h);
  sheets = λ i l. absurd (omega arith);
  ends = step_past book (at + 0) (omega arith);
}

sheet_first :
    {left : ℕ} {book : List ℕ} {at start size : ℕ} {parts : List (List ℕ)} → step_at book at ≡ Ok (Some (start, size)) →
    From left book (at + size) parts → From (suc left) book at (part_of book at size ∷ parts)
unfolding flat
sheet_first {left} {book} {at} {start} {size} {parts} e f = record {
  few = omega (arith, f.few);
  all = ap (λ l. part ++ l) (f.all ∙ sym (drop-drop size at book)) ∙ take-append-drop size (drop at book);
  sheets = each;
  ends = rw (later (length parts)) f.ends;
}
  where
    part : List ℕ
    part = part_of book at size

    sized : length part ≡ size
    sized = length-take-le size (drop at book) (rw length-drop (omega (arith, (sheet_at book at e).within)))

    later : (i : ℕ) → at + length (part ++ flat (take i parts)) ≡ at + size + length (flat (take i parts))
    later i = omega (arith, length-append part (flat (take i parts)), sized)

    each : (i : ℕ) → i < length (part ∷ parts) →
        (step_at book (at + place_of_part (part ∷ parts) i)
        ≡ Ok (Some (at + place_of_part (part ∷ parts) i, length (zone_at (part ∷ parts) i))))
        × (part_of book (at + place_of_part (part ∷ parts) i) (length (zone_at (part ∷ parts) i)) ≡ zone_at (part ∷ parts) i)
    each zero h =
        let z : at + 0 ≡ at = omega arith in
        let s = sheet_at book at e in
        (rw (z, sized) (e ∙ ap (λ n. Ok (Some (n, size))) s.starts), rw (z, sized))
    each (suc i) h = rw (later i) (f.sheets i (omega arith))

whole_same : {a b : List (List ℕ)} → Whole a ≡ Whole b → a ≡ b
whole_same e = cc

split_from_lem : (left : ℕ) (book : List ℕ) (at : ℕ) (parts : List (List ℕ)) → split_from left book at ≡ Whole parts →
    From left book at parts
unfolding split_from
split_from_lem zero book at parts e = go (ltb at (length book)) refl e
  where
    go : (t : Bool) → ltb at (length book) ≡ t → cond t (Broken (refused_at ManySheets at)) (Whole []) ≡ Whole parts → From 0 book at parts
    go true h e = let z : ◌≡◌ {A = ℕ} 0 1 = cc in absurd (omega arith)
    go false h e = subst (From 0 book at) (whole_same e) (nothing_left 0 book at (ltb-false at (length book) h))
split_from_lem (suc left) book at parts e = go (step_at book at) refl (λ next more g. split_from_lem left book next more g)
  where
    -- The walk from the next place on.
    Later : Type 0
    Later = (next : ℕ) (more : List (List ℕ)) → split_from left book next ≡ Whole more → From left book next more

    after : {start size : ℕ} (s : Split) → step_at book at ≡ Ok (Some (start, size)) → split_from left book (at + size) ≡ s →
        joined (part_of book at size) s ≡ Whole parts → Later → From (suc left) book at parts
    after {start} {size} (Whole more) f g j later =
        subst (From (suc left) book at) (whole_same j) (sheet_first f (later (at + size) more g))
    after (Broken refusal) f g j later = let z : ◌≡◌ {A = ℕ} 0 1 = cc in absurd (omega arith)

    go : (s : Step) → step_at book at ≡ s → Later → From (suc left) book at parts
    go (Ok (Some (start, size))) f later =
        after (split_from left book (at + size)) f refl (sym (split_sheet left book at f) ∙ e) later
    go (Err refusal) f later =
        let g = sym (split_refused left book at f) ∙ e in
        let z : ◌≡◌ {A = ℕ} 0 1 = cc in absurd (omega arith)
    go (Ok None) f later =
        subst (From (suc left) book at) (whole_same (sym (split_end left book at f) ∙ e))
        (nothing_left (suc left) book at (end_at book at f))

-- Where a sheet starts, the one before it ends.
place_suc : (parts : List (List ℕ)) (i : ℕ) → i < length parts →
    place_of_part parts (suc i) ≡ place_of_part parts i + length (zone_at parts i)
unfolding flat
place_suc [] i h = absurd (omega arith)
place_suc (part ∷ parts) zero h = omega (arith, length-append part [])
place_suc (part ∷ parts) (suc i) h =
    omega (
      arith,
      place_suc parts i (omega arith),
      length-append part (flat (take (suc i) parts)),
      length-append part (flat (take i parts)),
    )

-- ---- the claims

pub reader_visits : ReaderVisits
unfolding visited flat
reader_visits book parts e =
    let f = split_from_lem 64 book 0 parts e in
    record { few = f.few; all = f.all; places = places f; sheets = sheets f; ends = ends f }
  where
    zero-plus : (n : ℕ) → 0 + n ≡ n
    zero-plus n = omega arith

    sheets : From 64 book 0 parts → (i : ℕ) → i < length parts →
        (step_at book (place_of_part parts i) ≡ Ok (Some ((place_of_part parts i), (length (zone_at parts i)))))
        × (part_of book (place_of_part parts i) (length (zone_at parts i)) ≡ zone_at parts i)
    sheets f i h = rw (zero-plus (place_of_part parts i)) at (f.sheets i h)

    ends : From 64 book 0 parts → step_at book (place_of_part parts (length parts)) ≡ Ok None
    ends f = rw (zero-plus (place_of_part parts (length parts))) at f.ends

    places : From 64 book 0 parts → (i : ℕ) → i ≤ length parts → visited book i ≡ place_of_part parts i
    places f zero h = refl
    places f (suc i) h =
        ap (next_at book) (places f i (omega arith))
        ∙ next_sheet book (place_of_part parts i) (sheets f i (omega arith)).0
        ∙ sym (place_suc parts i (omega arith))

pub reader_stays : ReaderStays
unfolding next_at
reader_stays book at = (
  λ refusal e. let r = refused_step book at e in (r.stays, r.low, r.high),
  λ h. let e = step_past book at h in (e, rw e (omega arith)),
)

pub parts_are_sheets : PartsAreSheets
parts_are_sheets book parts e i h =
    let v = (reader_visits book parts e).sheets i h in
    ap fields_check (sym v.1) ∙ part_sound book (place_of_part parts i) v.0

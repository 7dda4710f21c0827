-- Sheets joined end to end. Defined: AllSheets. Proved, in order: begins, next_byte, split_joined, sheets_make_book.
use mathlib.Core.Path.{◌≡◌, refl, sym, ap, ◌∙◌}
use mathlib.Core.List.{List, [], ◌∷◌, ◌++◌}
use Prim.Native.Nat.{ℕ, zero, suc, ◌+◌, ◌≤◌, ◌<◌}
use native.Mathlib.Omega.{arith}
use lib.ListN.{length, take, drop, length-append, length-drop}
use lib.ListN.{get_or-append, get_or-eq_default}
use lib.Seq.{drop-drop, take-append_seam, drop-append_seam, get_or-append-add}
use Rattle.std.specs.declared.option.Option.TheVariants.{Some}
use Rattle.big_endian.specs.Bytes.{byte_at}
use Rattle.fields.specs.Fields.{is_allowed, fields_check, sheet_fields, sheet_end}
use Rattle.fields.proofs.Laws.Fields.{passed_field, passed_fields}
use Rattle.fields.proofs.Laws.Same.{put_before}
use Rattle.sheet.proofs.Laws.Reads.{fields_five}
use Rattle.book.specs.Split.{Whole, part_of, joined, split_from}
use Rattle.book.specs.Claims.{zone_at, flat, SheetsMakeBook}
use Rattle.book.proofs.Laws.Steps.{step_past, step_passed}
use Rattle.book.proofs.Laws.Splits.{split_sheet, split_end, split_done}
use Rattle.std.specs.declared.result.Result.TheVariants.{Ok}

AllSheets : List (List ℕ) → Type 0
AllSheets parts = (i : ℕ) → i < length parts → fields_check (zone_at parts i) ≡ Ok tt

-- A sheet begins with its tag, 1.
begins : (part : List ℕ) → fields_check part ≡ Ok tt → (0 < length part) × (byte_at part 0 ≡ 1)
begins part e =
    let f = passed_field 1 (is_allowed 4 4 1) part 0 (passed_fields part (fields_five part e)).zone in
    (omega (arith, f.head), f.tagged)

-- So that what follows a sheet does not begin with 6.
next_byte : (part : List ℕ) (parts : List (List ℕ)) → AllSheets parts →
    byte_at (part ++ flat parts) (length part) ≡ 6 → ⊥
unfolding flat AllSheets
next_byte part [] h z =
    let past : byte_at (part ++ []) (length part) ≡ 0 =
    get_or-eq_default (part ++ []) 0 (omega (arith, length-append part [])) in
    let y : ◌≡◌ {A = ℕ} 0 6 = sym past ∙ z in omega arith
next_byte part (next ∷ parts) h z =
    let b = begins next (h 0 (omega arith)) in
    let e : length part + 0 ≡ length part = omega arith in
    let at : byte_at (part ++ (next ++ flat parts)) (length part) ≡ byte_at (next ++ flat parts) 0 =
    ap (byte_at (part ++ (next ++ flat parts))) (sym e) ∙ get_or-append-add part (next ++ flat parts) 0 0 in
    let one : ◌≡◌ {A = ℕ} 1 6 = sym b.1 ∙ sym (get_or-append next (flat parts) 0 0 b.0) ∙ sym at ∙ z in
    omega arith

split_joined : (left : ℕ) (book : List ℕ) (at : ℕ) (parts : List (List ℕ)) → drop at book ≡ flat parts →
    length parts ≤ left → AllSheets parts → split_from left book at ≡ Whole parts
unfolding flat AllSheets
split_joined left book at [] e l h = go left
  where
    past : length book ≤ at
    past = let n = sym (length-drop at book) ∙ ap length e in omega arith

    go : (left : ℕ) → split_from left book at ≡ Whole []
    go zero = split_done book at past
    go (suc left) = split_end left book at (step_past book at past)
split_joined zero book at (part ∷ parts) e l h = absurd (omega arith)
split_joined (suc left) book at (part ∷ parts) e l h =
    let f = put_before part (flat parts) (h 0 (omega arith)) (next_byte part parts (λ i k. h (suc i) (omega arith))) in
    let n = sym (length-drop at book) ∙ ap length e ∙ length-append part (flat parts) in
    let here = step_passed book at (omega (arith, (begins part (h 0 (omega arith))).0)) (ap sheet_fields e ∙ f.0) in
    let step = here ∙ ap (λ n. Ok (Some (at, n))) (ap sheet_end e ∙ f.1) in
    let cut : part_of book at (length part) ≡ part = ap (take (length part)) e ∙ take-append_seam part (flat parts) in
    let rest : drop (at + length part) book ≡ flat parts =
    sym (drop-drop (length part) at book) ∙ ap (drop (length part)) e ∙ drop-append_seam part (flat parts) in
    split_sheet left book at step
    ∙ (λ j. joined (cut j)
    (split_joined left book (at + length part) parts rest (omega arith) (λ i k. h (suc i) (omega arith)) j))

pub sheets_make_book : SheetsMakeBook
unfolding AllSheets
sheets_make_book parts l h = split_joined 64 (flat parts) 0 parts refl l h

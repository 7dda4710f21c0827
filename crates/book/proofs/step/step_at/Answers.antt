-- `step::step_at` meets its contract. A refused place fits a word, since it stands in the book or just past it.
use mathlib.Core.List.{List}
use mathlib.Core.Path.{◌≡◌, sym, ap, ◌∙◌}
use Prim.Native.Nat.{ℕ, ◌-◌}
use native.Mathlib.Omega.{arith}
use lib.ListN.{length, take, drop, length-drop}
use Rattle.std.specs.declared.option.Option.TheVariants.{Some}
use Rattle.std.specs.declared.result.Result.TheVariants.{Ok, Err}
use Rattle.std.specs.declared.result.Result.{Result}
use Rattle.answer.specs.declared.Refusal.{Refusal}
use Rattle.fields.specs.declared.Parts.{Parts}
use Rattle.fields.specs.Fields.{sheet_fields, sheet_end}
use Rattle.fields.specs.Parts.{parts_of, parts_after}
use Rattle.fields.proofs.Laws.Fields.{five_passed}
use Rattle.fields.proofs.Laws.Front.{refuses_front}
use Rattle.fields.proofs.Laws.Parts.{passed_value, refused_value, parts_end, parts_few}
use Rattle.book.proofs.Laws.Steps.{rest_of, step_past, step_passed, step_failed}
use Rattle.book.proofs.step.step_at.Goals as goal

-- The bytes from a place on.
abbrev part : List ℕ → ℕ → List ℕ
part book at = take (length book - at) (drop at book)

module _ (rest : List ℕ) {r : Result Parts Refusal} (e : r ≡ parts_after (sheet_fields rest) rest) where
  passed : {p : Parts} → r ≡ Ok p → (sheet_fields rest ≡ Ok tt) × (p ≡ parts_of rest)
  passed f = passed_value (sheet_fields rest) (sym e ∙ f)

  failed : {refusal : Refusal} → r ≡ Err refusal → sheet_fields rest ≡ Err refusal
  failed f = refused_value (sheet_fields rest) _ (sym e ∙ f)

pub returns-then-book-at : goal.returns-then-book-at
returns-then-book-at c = sym (step_past _ _ c.if-book-at.true)

pub end-requires : goal.end-requires
end-requires c =
    let p = passed _ c.sheet_fields.ensures c.in-Ok.is in
    parts_few (part c.args.book.now c.args.at) p.1 (five_passed _ p.0)

pub overflow_add-at : goal.overflow_add-at
overflow_add-at c =
    let r = (refuses_front (part c.args.book.now c.args.at)).refusal _ (failed _ c.sheet_fields.ensures c.in-Err.is) in
    let l = length-drop c.args.at c.args.book.now in
    let e = ap length (rest_of c.args.book.now c.args.at) in
    record { fits = omega (arith, r.2) }

pub returns-in-Ok : goal.returns-in-Ok
returns-in-Ok c =
    let p = passed _ c.sheet_fields.ensures c.in-Ok.is in
    let e = rest_of c.args.book.now c.args.at in
    ap (λ n. Ok (Some (c.args.at, n)))
    (c.end.ensures ∙ parts_end (part c.args.book.now c.args.at) p.1 ∙ ap sheet_end e)
    ∙ sym (step_passed c.args.book.now c.args.at c.if-book-at.false (sym (ap sheet_fields e) ∙ p.0))

pub returns-in-Err : goal.returns-in-Err
returns-in-Err c =
    let e = rest_of c.args.book.now c.args.at in
    ap Err c.at.ensures
    ∙ sym (step_failed c.args.book.now c.args.at c.if-book-at.false (sym (ap sheet_fields e) ∙ failed _ c.sheet_fields.ensures c.in-Err.is))

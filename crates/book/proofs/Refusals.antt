-- A book that is refused. Defined: Listed (20 to 23 or 36, and a place in the book or just past it). Proved, in order:
-- same_broken, broken_from; refused_book.
use mathlib.Core.Path.{◌≡◌, refl, sym, subst, ◌∙◌}
use mathlib.Core.Logic.{◌⊎◌, inl, inr}
use mathlib.Core.Bool.{Bool, true, false, cond}
use mathlib.Core.List.{List, []}
use Prim.Native.Nat.{ℕ, zero, suc, ◌+◌, ◌≤◌}
use native.Mathlib.Omega.{arith}
use borrow.Author.Tests.{ltb-true}
use lib.Dec.{ltb}
use lib.ListN.{length}
use Rattle.std.specs.declared.option.Option.TheVariants.{None, Some}
use Rattle.answer.specs.declared.Refusal.{Refusal}
use Rattle.answer.specs.declared.Reason.TheVariants.{ManySheets}
use Rattle.answer.specs.Refusal.{reason_number, refused_at}
use Rattle.book.specs.Step.{Step}
use Rattle.book.specs.Step.{step_at}
use Rattle.book.specs.Split.{Split, Whole, Broken, part_of, joined, split_from}
use Rattle.book.specs.Claims.{RefusedBook}
use Rattle.book.proofs.Laws.Steps.{refused_step}
use Rattle.book.proofs.Laws.Splits.{split_sheet, split_refused, split_end}
use Rattle.book.proofs.Bits.{which_split}
use Rattle.std.specs.declared.result.Result.TheVariants.{Err, Ok}

abbrev Listed : List ℕ → Refusal → Type 0
Listed book r =
    (((20 ≤ reason_number r.reason) × (reason_number r.reason ≤ 23)) ⊎ (reason_number r.reason ≡ 36)) × (r.place ≤ length book)

same_broken : {q r : Refusal} → Broken q ≡ Broken r → q ≡ r
same_broken e = cc

broken_from : (left : ℕ) (book : List ℕ) (at : ℕ) (refusal : Refusal) → split_from left book at ≡ Broken refusal →
    Listed book refusal
unfolding split_from
broken_from zero book at refusal e = go (ltb at (length book)) refl e
  where
    go : (t : Bool) → ltb at (length book) ≡ t → cond t (Broken (refused_at ManySheets at)) (Whole []) ≡ Broken refusal → Listed book refusal
    go true h e =
        let l = ltb-true at (length book) h in
        subst (Listed book) (same_broken e) (inr refl, omega arith)
    go false h e = let z : ◌≡◌ {A = ℕ} 0 1 = cc in absurd (omega arith)
broken_from (suc left) book at refusal e = go (step_at book at) refl (λ next g. broken_from left book next refusal g)
  where
    Later : Type 0
    Later = (next : ℕ) → split_from left book next ≡ Broken refusal → Listed book refusal

    after : {start size : ℕ} (s : Split) → step_at book at ≡ Ok (Some (start, size)) → split_from left book (at + size) ≡ s →
        joined (part_of book at size) s ≡ Broken refusal → Later → Listed book refusal
    after (Whole more) f g j later = let z : ◌≡◌ {A = ℕ} 0 1 = cc in absurd (omega arith)
    after {start} {size} (Broken r) f g j later = later (at + size) (g ∙ j)

    go : (s : Step) → step_at book at ≡ s → Later → Listed book refusal
    go (Ok (Some (start, size))) f later =
        after (split_from left book (at + size)) f refl (sym (split_sheet left book at f) ∙ e) later
    go (Err first) f later =
        let r = refused_step book at f in
        subst (Listed book) (same_broken (sym (split_refused left book at f) ∙ e)) (inl (r.low, r.high), r.within)
    go (Ok None) f later =
        let g = sym (split_end left book at f) ∙ e in
        let z : ◌≡◌ {A = ℕ} 0 1 = cc in absurd (omega arith)

pub refused_book : RefusedBook
refused_book book grid query refusal e =
    let r = broken_from 64 book 0 refusal e in
    rw (which_split book grid query e) record {
      number_is = refl;
      place_is = refl;
      listed = r.0;
      within = r.1;
      count = refl;
      inside = refl;
      boundary = refl;
      refused = refl;
    }

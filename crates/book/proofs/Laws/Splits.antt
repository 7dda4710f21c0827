-- The walk, a step at a time. Proved, in order: split_sheet, split_refused, split_end, split_left, split_done.
use Rattle.std.specs.declared.option.Option.TheVariants.{None, Some}
use Rattle.answer.specs.declared.Reason.TheVariants.{ManySheets}
use Rattle.answer.specs.Refusal.{refused_at}
use Rattle.answer.specs.declared.Refusal.{Refusal}
use mathlib.Core.Path.{◌≡◌}
use mathlib.Core.List.{List, []}
use Prim.Native.Nat.{ℕ, suc, ◌+◌, ◌≤◌, ◌<◌}
use borrow.Author.Tests.{lt-ltb, le-ltb}
use lib.ListN.{length}
use Rattle.book.specs.Step.{step_at}
use Rattle.book.specs.Split.{Whole, Broken, part_of, joined, split_from}
use Rattle.book.proofs.Laws.Steps.{sheet_at, next_sheet}
use Rattle.std.specs.declared.result.Result.TheVariants.{Err, Ok}

module _ (left : ℕ) (book : List ℕ) (at : ℕ) where
  pub split_sheet :
      {start size : ℕ} → step_at book at ≡ Ok (Some (start, size)) →
      split_from (suc left) book at ≡ joined (part_of book at size) (split_from left book (at + size))
  unfolding split_from
  split_sheet e = rw (e, next_sheet book at e, (sheet_at book at e).starts)

  pub split_refused : {refusal : Refusal} → step_at book at ≡ Err refusal → split_from (suc left) book at ≡ Broken refusal
  unfolding split_from
  split_refused e = rw e

  pub split_end : step_at book at ≡ Ok None → split_from (suc left) book at ≡ Whole []
  unfolding split_from
  split_end e = rw e

-- After 64 sheets.
pub split_left : (book : List ℕ) (at : ℕ) → at < length book → split_from 0 book at ≡ Broken (refused_at ManySheets at)
unfolding split_from
split_left book at h = rw (lt-ltb at (length book) h)

pub split_done : (book : List ℕ) (at : ℕ) → length book ≤ at → split_from 0 book at ≡ Whole []
unfolding split_from
split_done book at h = rw (le-ltb at (length book) h)

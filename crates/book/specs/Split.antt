-- Document 02, P10: a book is up to 64 sheets joined end to end. Defined, in order: Split (the sheets' own bytes, or a
-- refusal), part_of, joined, split_after, split_from, split_of. The earliest sheet decides.
use Rattle.answer.specs.declared.Refusal.{Refusal}
use Rattle.answer.specs.declared.Reason.TheVariants.{ManySheets}
use Rattle.answer.specs.Refusal.{refused_at}
use Rattle.std.specs.declared.option.Option.TheVariants.{None, Some}
use Rattle.std.specs.Prelude.{cond, List, [], ◌∷◌, ℕ, zero, suc, ltb, length, take, drop}
use Rattle.book.specs.Step.{Step}
use Rattle.book.specs.Step.{step_at, next_at}
use Rattle.std.specs.declared.result.Result.TheVariants.{Err, Ok}

pub data Split : Type 0 where
  Whole : List (List ℕ) → Split
  Broken : Refusal → Split

-- A sheet's own bytes, cut out of the book.
abbrev pub part_of : List ℕ → ℕ → ℕ → List ℕ
part_of book at size = take size (drop at book)

-- A sheet in front of those that follow it.
abbrev pub joined : List ℕ → Split → Split
joined part (Whole parts) = Whole (part ∷ parts)
joined part (Broken refusal) = Broken refusal

abbrev pub split_after : Step → List ℕ → Split → Split
split_after (Ok (Some (start, size))) book later = joined (part_of book start size) later
split_after (Err refusal) book later = Broken refusal
split_after (Ok None) book later = Whole []

-- The sheets from `at` on, of which there may be as many as the first number says. Bytes left after them are 36,
-- however damaged they are.
unfoldable pub split_from : ℕ → List ℕ → ℕ → Split
split_from zero book at = cond (ltb at (length book)) (Broken (refused_at ManySheets at)) (Whole [])
split_from (suc left) book at = split_after (step_at book at) book (split_from left book (next_at book at))

abbrev pub split_of : List ℕ → Split
split_of book = split_from 64 book 0

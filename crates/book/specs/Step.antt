-- Document 02, P10: one step of the walk over a book, by the fields of the sheet that stands there. Defined, in order:
-- Step, step_number_of, step_place_of, step_count_of (the one meaning of `Step`: document 01's answer); step_after, step_at, next_at.
use Rattle.std.specs.Prelude.{Option, Result}
use Rattle.answer.specs.declared.Refusal.{Refusal}
use Rattle.answer.specs.Refusal.{reason_number, refused_at}
use Rattle.std.specs.declared.option.Option.TheVariants.{None, Some}
use Rattle.std.specs.Prelude.{cond, List, ℕ, ◌+◌, ltb, length, drop}
use Rattle.std.specs.declared.result.Result.TheVariants.{Ok, Err}
use Rattle.answer.specs.Refusal.{Check}
use Rattle.fields.specs.Fields.{sheet_fields, sheet_end}

-- A sheet with its start and its length; nothing more; or a refusal, whose place is counted from the book's start.
abbrev pub Step : Type 0
Step = Result (Option (ℕ × ℕ)) Refusal

abbrev pub step_number_of : Step → ℕ
step_number_of (Ok (Some (start, size))) = 0
step_number_of (Err refusal) = reason_number refusal.reason
step_number_of (Ok None) = 0

abbrev pub step_place_of : Step → ℕ
step_place_of (Ok (Some (start, size))) = start
step_place_of (Err refusal) = refusal.place
step_place_of (Ok None) = 0

abbrev pub step_count_of : Step → ℕ
step_count_of (Ok (Some (start, size))) = size
step_count_of (Err refusal) = 0
step_count_of (Ok None) = 0

-- The step at `at`, by the check of the bytes from there on and by where their first sheet ends. Places are counted
-- from the book's start.
abbrev pub step_after : Check → ℕ → ℕ → Step
step_after (Ok unit) at size = Ok (Some (at, size))
step_after (Err refusal) at size = Err (refused_at refusal.reason (at + refusal.place))

-- 20 to 23. What would be 24 starts the next sheet, so it is not looked for.
unfoldable pub step_at : List ℕ → ℕ → Step
step_at book at =
    cond (ltb at (length book)) (step_after (sheet_fields (drop at book)) at (sheet_end (drop at book))) (Ok None)

-- Where the walk stands after the step: past the sheet. A refusal and the end stay.
unfoldable pub next_at : List ℕ → ℕ → ℕ
next_at book at = at + step_count_of (step_at book at)

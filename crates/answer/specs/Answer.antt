-- Document 01, 'What comes back': an answer is a number, a place and a count; and document 02, P6: a sum. Defined, in
-- order: number_of, place_of, count_of, sum_of, answer_after. They are the one meaning of `Answer`: each promise uses them.
use Rattle.std.specs.Prelude.{ℕ, ℤ, pos, Ok, Err}
use Rattle.answer.specs.declared.Verdict.TheVariants.{Done, Inside, Outside, Boundary}
use Rattle.answer.specs.Refusal.{Check, Answer, reason_number}

abbrev pub number_of : Answer → ℕ
number_of (Ok (Done place)) = 0
number_of (Ok (Inside crossed sum)) = 1
number_of (Ok (Outside crossed sum)) = 2
number_of (Ok (Boundary edge)) = 3
number_of (Err refusal) = reason_number refusal.reason

abbrev pub place_of : Answer → ℕ
place_of (Ok (Done place)) = place
place_of (Ok (Inside crossed sum)) = 0
place_of (Ok (Outside crossed sum)) = 0
place_of (Ok (Boundary edge)) = edge
place_of (Err refusal) = refusal.place

abbrev pub count_of : Answer → ℕ
count_of (Ok (Done place)) = 0
count_of (Ok (Inside crossed sum)) = crossed
count_of (Ok (Outside crossed sum)) = crossed
count_of (Ok (Boundary edge)) = 0
count_of (Err refusal) = 0

-- The crossings by document 01's first pattern less those by its second.
abbrev pub sum_of : Answer → ℤ
sum_of (Ok (Done place)) = pos 0
sum_of (Ok (Inside crossed sum)) = sum
sum_of (Ok (Outside crossed sum)) = sum
sum_of (Ok (Boundary edge)) = pos 0
sum_of (Err refusal) = pos 0

-- The answer a, if the checks passed.
abbrev pub answer_after : Check → Answer → Answer
answer_after (Ok passed) a = a
answer_after (Err refusal) a = Err refusal

-- Document 02, P10: sets of zones as numbers, one bit a zone, the first sheet lowest; and what a book answers. Defined,
-- in order: is_inside, is_boundary, is_refused; digit, mask_of, sets_of, no_zones; found_of, broken_at, broken_by; then, of the
-- code's inner functions, Below, with_bit, added_to.
use Rattle.std.specs.Prelude.{Bool, true, false, cond, List, [], ◌∷◌, ℕ, ◌+◌, ◌*◌, ◌^◌, ◌<◌}
use Rattle.std.specs.Int.Count.{ones}
use Rattle.std.specs.declared.result.Result.TheVariants.{Ok, Err}
use Rattle.answer.specs.declared.Refusal.{Refusal}
use Rattle.answer.specs.Refusal.{reason_number}
use Rattle.answer.specs.Refusal.{Answer}
use Rattle.answer.specs.declared.Verdict.TheVariants.{Done, Inside, Outside, Boundary}
use Rattle.book.specs.declared.sets.Sets.{Sets}
use Rattle.book.specs.declared.sets.Which.{Which}

-- The set that an answer names. Outside is in none. (No judging call answers Done.)
abbrev pub is_inside : Answer → Bool
is_inside (Ok (Done place)) = false
is_inside (Ok (Inside crossed sum)) = true
is_inside (Ok (Outside crossed sum)) = false
is_inside (Ok (Boundary edge)) = false
is_inside (Err refusal) = false

abbrev pub is_boundary : Answer → Bool
is_boundary (Ok (Done place)) = false
is_boundary (Ok (Inside crossed sum)) = false
is_boundary (Ok (Outside crossed sum)) = false
is_boundary (Ok (Boundary edge)) = true
is_boundary (Err refusal) = false

abbrev pub is_refused : Answer → Bool
is_refused (Ok (Done place)) = false
is_refused (Ok (Inside crossed sum)) = false
is_refused (Ok (Outside crossed sum)) = false
is_refused (Ok (Boundary edge)) = false
is_refused (Err refusal) = true

abbrev pub digit : Bool → ℕ
digit t = cond t 1 0

-- The first answer is the lowest bit.
unfoldable pub mask_of : (Answer → Bool) → List Answer → ℕ
mask_of test [] = 0
mask_of test (answer ∷ answers) = mask_of test answers * 2 + digit (test answer)

abbrev pub sets_of : List Answer → Sets
sets_of answers = record {
  inside = mask_of is_inside answers;
  boundary = mask_of is_boundary answers;
  refused = mask_of is_refused answers;
}

abbrev pub no_zones : Sets
no_zones = record { inside = 0; boundary = 0; refused = 0 }

-- The count is how many zones hold the query, counted from the bits of the first two sets.
abbrev pub found_of : Sets → Which
found_of sets = record { number = 0; place = 0; count = ones sets.inside + ones sets.boundary; sets = sets }

-- A book that is refused.
abbrev pub broken_at : ℕ → ℕ → Which
broken_at number place = record { number = number; place = place; count = 0; sets = no_zones }

abbrev pub broken_by : Refusal → Which
broken_by refusal = broken_at (reason_number refusal.reason) refusal.place

-- ---- of the code's inner functions: the sets zone by zone

-- No bit from i on is set.
pub record Below (i : ℕ) (sets : Sets) : Type 0 where
  pub inside : sets.inside < 2 ^ i
  pub boundary : sets.boundary < 2 ^ i
  pub refused : sets.refused < 2 ^ i

-- Bit i set in a mask below it, or not.
abbrev pub with_bit : Bool → ℕ → ℕ → ℕ
with_bit true i mask = 2 ^ i + mask
with_bit false i mask = mask

abbrev pub added_to : Sets → ℕ → Answer → Sets
added_to sets i answer = record {
  inside = with_bit (is_inside answer) i sets.inside;
  boundary = with_bit (is_boundary answer) i sets.boundary;
  refused = with_bit (is_refused answer) i sets.refused;
}

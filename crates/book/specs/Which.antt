-- Document 02, P10: which zones of a book hold a query. Defined, in order: grid_number_of, named_check (28, for one zone),
-- zone_answer (the single call on a sheet's own bytes, for a query on the named grid), which_after, which_of.
use Rattle.std.specs.Prelude.{not, List, map, ℕ, eqb}
use Rattle.sphere.specs.declared.point.Grid.{Grid}
use Rattle.sphere.specs.declared.point.Grid.TheVariants.{Coarse, Fine}
use Rattle.sphere.specs.declared.point.Point.{Point}
use Rattle.answer.specs.declared.Reason.TheVariants.{OtherGrid}
use Rattle.answer.specs.Refusal.{Answer}
use Rattle.answer.specs.Refusal.{Check}
use Rattle.answer.specs.Answer.{answer_after}
use Rattle.answer.specs.Chain.{fails_if}
use Rattle.fields.specs.Fields.{grid_of}
use Rattle.zone.specs.Judge.{sheet_answer_of}
use Rattle.book.specs.declared.sets.Which.{Which}
use Rattle.book.specs.Split.{Split, Whole, Broken, split_of}
use Rattle.book.specs.Sets.{sets_of, found_of, broken_by}

-- 0 names the grid of 2^20, 1 that of 2^26; any other number matches no sheet.
abbrev pub grid_number_of : Grid → ℕ
grid_number_of Coarse = 0
grid_number_of Fine = 1

-- Of a sheet whose fields are sound: 28 comes before 11.
unfoldable pub named_check : ℕ → List ℕ → Check
named_check grid part = fails_if OtherGrid (not (eqb grid (grid_number_of (grid_of part))))

unfoldable pub zone_answer : ℕ → Point → List ℕ → Answer
zone_answer grid query part = answer_after (named_check grid part) (sheet_answer_of part query)

abbrev pub which_after : (List ℕ → Answer) → Split → Which
which_after answer (Whole parts) = found_of (sets_of (map answer parts))
which_after answer (Broken refusal) = broken_by refusal

unfoldable pub which_of : List ℕ → ℕ → Point → Which
which_of book grid query = which_after (zone_answer grid query) (split_of book)

-- The box of a sheet's zone, in bytes. Defined, in order: bounded_of (the zone has a box of its own), box_check (27,
-- then the sheet's refusal), box_of, box_count_of; Holds (what is claimed of a box), BoxAfter (the buffer after the
-- call). Number, place and count are said by definition, and so is the whole; how tight another box is, is left open.
use Rattle.std.specs.Prelude.{◌⊎◌, ◌≡◌, Bool, false, cond, ◌&&◌, List, ℕ, ltb, length}
use Rattle.sphere.specs.declared.point.Point.{Point}
use Rattle.std.specs.declared.result.Result.TheVariants.{Ok}
use Rattle.answer.specs.declared.Reason.TheVariants.{ResultRoom}
use Rattle.answer.specs.Refusal.{Answer}
use Rattle.answer.specs.declared.Verdict.TheVariants.{Done}
use Rattle.answer.specs.Refusal.{Check}
use Rattle.answer.specs.Answer.{number_of, answer_after}
use Rattle.answer.specs.Chain.{◌then◌, is_passed, fails_here}
use Rattle.answer.specs.Buffer.{buffer_after}
use Rattle.separation.specs.Separation.{away_of}
use Rattle.sheet.specs.Sheet.{vertices_of, sheet_check}
use Rattle.zone.specs.Judge.{sheet_answer_of}
use Rattle.extent.specs.declared.sides.Sides.{Sides}
use Rattle.extent.specs.Sides.{InBox, whole_sides, box_bytes}
use Rattle.extent.specs.Extent.{is_bounded}

unfoldable pub bounded_of : List ℕ → Bool
bounded_of b = is_bounded (vertices_of b) (sheet_answer_of b (away_of (vertices_of b)))

unfoldable pub box_check : List ℕ → ℕ → Check
box_check b room = fails_here ResultRoom 24 (ltb room 24) then sheet_check b

abbrev pub box_of : List ℕ → ℕ → Answer
box_of b room = answer_after (box_check b room) (Ok (Done 0))

-- 1 where a box of the zone's own is written.
abbrev pub box_count_of : List ℕ → ℕ → ℕ
box_count_of b room = cond (is_passed (box_check b room) && bounded_of b) 1 0

-- Every query that is judged 1 or 3 lies in the box, and without a box of its own it is the whole.
pub record Holds (b : List ℕ) (s : Sides) : Type 0 where
  pub each : (P : Point) → (number_of (sheet_answer_of b P) ≡ 1) ⊎ (number_of (sheet_answer_of b P) ≡ 3) → InBox s P
  pub whole : bounded_of b ≡ false → s ≡ whole_sides

pub record BoxAfter (b before after : List ℕ) : Type 0 where
  pub sides : Sides
  pub holds : box_check b (length before) ≡ Ok tt → Holds b sides
  pub same : after ≡ buffer_after (box_check b (length before)) (box_bytes sides) before

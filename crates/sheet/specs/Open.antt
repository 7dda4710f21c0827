-- Opening a sheet: what the code hands on from there, and its scratch space. Defined, in order: opened_of,
-- opened_after; room_for, decoded_of, BoxesFor. Readers need none of it: reading and judging are stated without.
use Rattle.std.specs.Prelude.{◌≡◌, List, ℕ, ◌-◌, ◌/◌, ℤ, length, Result}
use Rattle.std.specs.declared.result.Result.TheVariants.{Ok}
use Rattle.answer.specs.declared.Refusal.{Refusal}
use Rattle.answer.specs.Refusal.{Check}
use Rattle.fields.specs.Fields.{grid_of, has_second_point, five_fields, fields_check}
use Rattle.fields.specs.Parts.{value_after}
use Rattle.judging.specs.Accept.{BoxRoom}
use Rattle.sheet.specs.declared.open.Opened.{Opened}
use Rattle.sheet.specs.Sheet.{name_length, known_of, vertex_count_of, vertices_of, second_of, loaded_after}

-- The points of a sheet that passed, or why it is refused.
abbrev pub opened_of : List ℕ → Opened
opened_of b = record {
  grid = grid_of b;
  known = known_of b;
  second = second_of b;
  has_second = has_second_point b;
  count = vertex_count_of b;
  name = name_length b;
}

abbrev pub opened_after : Check → List ℕ → Result Opened Refusal
opened_after check b = value_after check (opened_of b)

-- ---- scratch space

-- Numbers enough for the vertices of a sheet of these bytes: a quarter of them, and at most those of 4,096 vertices.
abbrev pub room_for : List ℕ → ℕ
room_for b = length b / 4 - (length b / 4 - 12288)

-- What the checks leave in their own scratch space: the vertices, as soon as the fields are sound.
unfoldable pub decoded_of : List ℕ → List ℤ → List ℤ
decoded_of b scratch = loaded_after (fields_check b) b scratch

-- Numbers enough for the boxes of a sheet of these bytes.
pub record BoxesFor (b : List ℕ) (boxes : List ℤ) : Type 0 where
  pub enough : five_fields b ≡ Ok tt → BoxRoom (vertices_of b) boxes

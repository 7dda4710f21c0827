-- What the checks of the fields hand on: the refusal, or every number of the fields that bounds a part of the bytes,
-- each read once. Defined, in order: value_after (of any check); parts_of, parts_after; second_of_parts, end_of_parts (the
-- places that follow from them). Readers need none of it: the checks are stated in Fields.
use Rattle.std.specs.Prelude.{cond, List, ℕ, ◌+◌, Result}
use Rattle.big_endian.specs.Bytes.{short_at}
use Rattle.std.specs.declared.result.Result.TheVariants.{Ok, Err}
use Rattle.answer.specs.declared.Refusal.{Refusal}
use Rattle.answer.specs.Refusal.{Check}
use Rattle.fields.specs.declared.Parts.{Parts}
use Rattle.fields.specs.Fields.{name_start, vertices_start, grid_of, has_second_point}

-- A value, if the check passed.
abbrev pub value_after : {A : Type 0} → Check → A → Result A Refusal
value_after (Ok unit) value = Ok value
value_after (Err refusal) value = Err refusal

abbrev pub parts_of : List ℕ → Parts
parts_of b = record {
  name = short_at b (name_start + 1);
  row = short_at b (vertices_start b + 1);
  grid = grid_of b;
  has_second = has_second_point b;
}

abbrev pub parts_after : Check → List ℕ → Result Parts Refusal
parts_after check b = value_after check (parts_of b)

-- Where the vertices end, and where the sheet does.
abbrev pub second_of_parts : Parts → ℕ
second_of_parts p = p.name + 32 + p.row

abbrev pub end_of_parts : Parts → ℕ
end_of_parts p = cond p.has_second (second_of_parts p + 15) (second_of_parts p)

-- Document 01, 'The zone sheet', second layer: what the fields mean, and what reading hands back. Defined, in order:
-- zone_of, charset_of, name_at, name_length, name_of, known_of, vertex_count_of, vertices_of, second_of; plain_check (20 to 24,
-- then 11 to 16), sheet_second_check (19), sheet_check (all of them); refused_sheet, read_after, read_of; loaded_after,
-- loaded_of. On bytes that are no sheet the parts mean nothing and only sheet_check counts.
use Rattle.std.specs.Prelude.{cond, List, ◌++◌, ℕ, ◌+◌, ◌*◌, ◌/◌, ℤ, pos, length, take, drop}
use Rattle.sphere.specs.declared.point.Point.{Point}
use Rattle.sphere.specs.declared.point.Grid.TheVariants.{Coarse}
use Rattle.sphere.specs.Point.{limit_of}
use Rattle.big_endian.specs.Bytes.{byte_at, short_at, word_at, point_at, ints_at}
use Rattle.std.specs.declared.result.Result.TheVariants.{Ok, Err}
use Rattle.answer.specs.declared.Verdict.TheVariants.{Done}
use Rattle.answer.specs.declared.Refusal.{Refusal}
use Rattle.answer.specs.Refusal.{Check}
use Rattle.answer.specs.Chain.{◌then◌}
use Rattle.polygon.specs.Checks.{accept_check}
use Rattle.polygon.specs.Pair.{second_check, no_second}
use Rattle.sheet.specs.declared.read.Sheet.{Sheet}
use Rattle.fields.specs.Fields.{charset_start, name_start, known_start, vertices_start, grid_of, second_start, has_second_point}
use Rattle.fields.specs.Fields.{fields_check}

-- ---- the parts

abbrev pub zone_of : List ℕ → ℕ
zone_of b = word_at b 3

abbrev pub charset_of : List ℕ → ℕ
charset_of b = byte_at b (charset_start + 3)

-- Where the name stands, always, and its bytes as received.
abbrev pub name_at : ℕ
name_at = name_start + 3

abbrev pub name_length : List ℕ → ℕ
name_length b = short_at b (name_start + 1)

abbrev pub name_of : List ℕ → List ℕ
name_of b = take (name_length b) (drop name_at b)

abbrev pub known_of : List ℕ → Point
known_of b = point_at b (known_start b + 3)

abbrev pub vertex_count_of : List ℕ → ℕ
vertex_count_of b = short_at b (vertices_start b + 1) / 12

abbrev pub vertices_of : List ℕ → List ℤ
vertices_of b = ints_at b (vertices_start b + 3) (vertex_count_of b * 3)

-- The point of tag 6, or none: all zero.
unfoldable pub second_of : List ℕ → Point
second_of b = cond (has_second_point b) (point_at b (second_start b + 3)) no_second

-- ---- reading

-- A sheet without regard to its second point.
unfoldable pub plain_check : List ℕ → Check
plain_check b = fields_check b then accept_check (limit_of (grid_of b)) (vertices_of b) (known_of b)

-- The second point, where the field is there: one of all zero fails too.
unfoldable pub sheet_second_check : List ℕ → Check
sheet_second_check b =
    cond (has_second_point b) (second_check (limit_of (grid_of b)) (vertices_of b) (known_of b) (second_of b)) (Ok tt)

unfoldable pub sheet_check : List ℕ → Check
sheet_check b = plain_check b then sheet_second_check b

-- A refusal, and zeros beside it; the coarse grid is the number 0.
abbrev pub refused_sheet : Refusal → Sheet
refused_sheet refusal = record {
  answer = Err refusal;
  zone = 0;
  charset = 0;
  name_at = 0;
  name_len = 0;
  known = record { x = pos 0; y = pos 0; z = pos 0 };
  vertex_count = 0;
  second = no_second;
  grid = Coarse;
}

abbrev pub read_after : Check → List ℕ → Sheet
read_after (Err refusal) b = refused_sheet refusal
read_after (Ok unit) b = record {
  answer = Ok (Done (length b));
  zone = zone_of b;
  charset = charset_of b;
  name_at = name_at;
  name_len = name_length b;
  known = known_of b;
  vertex_count = vertex_count_of b;
  second = second_of b;
  grid = grid_of b;
}

-- What reading hands back of any bytes.
unfoldable pub read_of : List ℕ → Sheet
read_of b = read_after (sheet_check b) b

-- The vertices in front of a list of numbers, if a check passed.
abbrev pub loaded_after : Check → List ℕ → List ℤ → List ℤ
loaded_after (Err refusal) b out = out
loaded_after (Ok unit) b out = vertices_of b ++ drop (vertex_count_of b * 3) out

-- What loading leaves in the numbers that a user lends: the vertices of an accepted sheet, and else all as it was.
unfoldable pub loaded_of : List ℕ → List ℤ → List ℤ
loaded_of b out = loaded_after (sheet_check b) b out

-- An outline as C hands it over, without a sheet: vertices of twelve bytes each (document 02, P9). Defined, in order:
-- outline_of, basin_of_bytes.
use Rattle.std.specs.Prelude.{cond, List, ℕ, ◌*◌, ◌/◌, ◌%◌, eqb, ℤ, length}
use Rattle.big_endian.specs.Bytes.{ints_at}
use Rattle.basin.specs.Basin.{Basin, basin_of}
use Rattle.std.specs.declared.result.Result.TheVariants.{Err}
use Rattle.answer.specs.declared.Reason.TheVariants.{VertexList}
use Rattle.answer.specs.Refusal.{refused_at}

-- The vertices as a list of numbers, three for each.
abbrev pub outline_of : List ℕ → List ℤ
outline_of b = ints_at b 0 (length b / 12 * 3)

-- Bytes that are not whole twelves are no list of whole threes: 10. Otherwise what the list answers.
unfoldable pub basin_of_bytes : ℕ → List ℕ → Basin
basin_of_bytes g b = cond (eqb (length b % 12) 0) (basin_of g (outline_of b)) (Err (refused_at VertexList 0))

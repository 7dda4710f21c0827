-- Document 02, P9: the basin profile's answer to any list of numbers and any number of a grid. Defined, in order:
-- Basin; basin_number_of, basin_place_of, basin_count_of (its one meaning: it alone has a count in a refusal);
-- basin_check (10, 28, 11 to 14, 34), basin_after (35), basin_of.
use Rattle.std.specs.Prelude.{not, List, ℕ, ltb, ℤ, Option, None, Some, Result, Ok, Err}
use Rattle.sphere.specs.Point.{limit_of, is_grid_number, grid_numbered}
use Rattle.answer.specs.declared.Reason.TheVariants.{ManyVertices}
use Rattle.answer.specs.declared.Refusal.{Refusal}
use Rattle.answer.specs.Refusal.{Check, reason_number}
use Rattle.answer.specs.Chain.{◌then◌, fails_if}
use Rattle.polygon.specs.Vertices.{vertices_count}
use Rattle.polygon.specs.Checks.{polygon_check}
use Rattle.polygon.specs.Grids.{grid_check}
use Rattle.basin.specs.Pairs.{first_pair_of}

-- The first edge that shares a point with a later one, and that one, if there are such; or the refusal.
abbrev pub Basin : Type 0
Basin = Result (Option (ℕ × ℕ)) Refusal

abbrev pub basin_number_of : Basin → ℕ
basin_number_of (Ok None) = 0
basin_number_of (Ok (Some pair)) = 35
basin_number_of (Err refusal) = reason_number refusal.reason

abbrev pub basin_place_of : Basin → ℕ
basin_place_of (Ok None) = 0
basin_place_of (Ok (Some pair)) = pair.0
basin_place_of (Err refusal) = refusal.place

abbrev pub basin_count_of : Basin → ℕ
basin_count_of (Ok None) = 0
basin_count_of (Ok (Some pair)) = pair.1
basin_count_of (Err refusal) = 0

-- 10, 28, 11 to 14, 34.
unfoldable pub basin_check : ℕ → List ℤ → Check
basin_check g vs =
    grid_check vs (not (is_grid_number g))
    then polygon_check (limit_of (grid_numbered g)) vs
    then fails_if ManyVertices (ltb 512 (vertices_count vs))

-- And 35.
abbrev pub basin_after : Check → Option (ℕ × ℕ) → Basin
basin_after (Err refusal) pair = Err refusal
basin_after (Ok unit) pair = Ok pair

unfoldable pub basin_of : ℕ → List ℤ → Basin
basin_of g vs = basin_after (basin_check g vs) (first_pair_of vs)

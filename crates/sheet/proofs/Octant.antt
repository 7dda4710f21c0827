-- The octant's sheets, byte by byte, and what is read of them. The checker computes all of it, so every
-- definition that it goes through is opened here. Proved: octant_sheet, octant_pair_sheet,
-- octant_fine_sheet.
use mathlib.Core.Path.{refl}
use Rattle.sphere.specs.Point.{is_far, is_beyond, is_null, is_off_grid}
use Rattle.sphere.specs.Orientation.{orientation_of, cross_of, dot_of}
use Rattle.sphere.specs.Direction.{is_same_direction, is_antipodal}
use Rattle.sphere.specs.Crossing.{crossing_of}
use Rattle.sphere.specs.OnEdge.{is_on_edge}
use Rattle.big_endian.specs.Bytes.{short_at, word_at, signed, int_at, point_at, ints_at, short_bytes, word_bytes, word_of}
use Rattle.big_endian.specs.Bytes.{int_bytes, ints_bytes}
use Rattle.answer.specs.Search.{first_from, count_from, sum_from}
use Rattle.polygon.specs.Vertices.{vertex_at, next_of}
use Rattle.polygon.specs.Checks.{list_check, beyond_check, null_check, same_check, antipodal_check, reference_check}
use Rattle.polygon.specs.Checks.{circle_check, query_check, far_check, polygon_check, accept_check, judge_check}
use Rattle.polygon.specs.Verdict.{boundary_of, crossings_of, winding_of, verdict_of, answer_of}
use Rattle.polygon.specs.Pair.{is_second, second_check}
use Rattle.fields.specs.Fields.{is_allowed, field_end, field_check, grid_at, has_second_point, is_charset, charset_check, five_fields}
use Rattle.fields.specs.Fields.{second_field, sheet_fields, rest_check, fields_check}
use Rattle.sheet.specs.Sheet.{second_of, plain_check, sheet_second_check, sheet_check, read_of}
use Rattle.sheet.specs.Write.{field_bytes, second_bytes, sheet_bytes}
use Rattle.sheet.specs.Claims.{OctantSheet, OctantPairSheet, OctantFineSheet, octant_bytes, octant_pair_bytes}

pub octant_sheet : OctantSheet
unfolding octant_bytes sheet_bytes second_bytes is_null field_bytes short_bytes word_bytes int_bytes ints_bytes word_of
octant_sheet = refl

pub octant_pair_sheet : OctantPairSheet
unfolding octant_bytes octant_pair_bytes sheet_bytes second_bytes field_bytes short_bytes word_bytes int_bytes ints_bytes word_of
    read_of sheet_check plain_check sheet_second_check second_of fields_check rest_check sheet_fields second_field
    five_fields charset_check is_charset has_second_point grid_at field_check field_end is_allowed short_at word_at signed int_at point_at
    ints_at
    second_check is_second answer_of judge_check accept_check polygon_check list_check beyond_check null_check
    same_check antipodal_check reference_check circle_check query_check far_check verdict_of boundary_of crossings_of winding_of
    first_from count_from sum_from vertex_at next_of is_off_grid is_beyond is_far is_null is_same_direction is_antipodal crossing_of
    is_on_edge orientation_of cross_of dot_of
octant_pair_sheet = (refl, refl)

pub octant_fine_sheet : OctantFineSheet
unfolding octant_bytes sheet_bytes second_bytes field_bytes short_bytes word_bytes int_bytes ints_bytes word_of
    read_of sheet_check plain_check sheet_second_check second_of fields_check rest_check sheet_fields second_field
    five_fields charset_check is_charset has_second_point grid_at field_check field_end is_allowed short_at word_at signed int_at point_at
    ints_at
    accept_check polygon_check list_check beyond_check null_check
    same_check antipodal_check reference_check circle_check query_check far_check verdict_of boundary_of crossings_of winding_of
    first_from count_from sum_from vertex_at next_of is_off_grid is_beyond is_far is_null is_same_direction is_antipodal crossing_of
    is_on_edge orientation_of cross_of dot_of
octant_fine_sheet = (refl, refl, refl)

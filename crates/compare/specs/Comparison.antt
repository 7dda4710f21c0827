-- Document 02, P11: what comparing two sheets returns, for any bytes. Defined, in order: refused_comparison,
-- compared_after, comparison_of. Refusals: the left sheet's, else the right sheet's. Mixed grids are not refused here.
use Rattle.std.specs.Prelude.{List, ℕ, length, replicate}
use Rattle.std.specs.declared.result.Result.TheVariants.{Ok, Err}
use Rattle.answer.specs.declared.Refusal.{Refusal}
use Rattle.answer.specs.Refusal.{Check, reason_number}
use Rattle.answer.specs.Chain.{◌then◌}
use Rattle.sheet.specs.Sheet.{vertices_of, sheet_check}
use Rattle.compare.specs.declared.Comparison.{Comparison}
use Rattle.compare.specs.Ring.{placed_of, way_of, place_of}
use Rattle.compare.specs.Differences.{differences_of, filled}

-- A refusal, and zeros beside it.
abbrev pub refused_comparison : Refusal → Comparison
refused_comparison refusal = record {
  number = reason_number refusal.reason;
  place = refusal.place;
  count = 0;
  way = 0;
  fields = replicate 7 0;
}

-- The place is the ring's, also where the rings do not differ; the count is the number of fields that do.
abbrev pub compared_after : Check → List ℕ → List ℕ → Comparison
compared_after (Err refusal) b c = refused_comparison refusal
compared_after (Ok unit) b c = record {
  number = 0;
  place = place_of (placed_of (vertices_of b) (vertices_of c));
  count = length (differences_of b c);
  way = way_of (placed_of (vertices_of b) (vertices_of c));
  fields = filled (differences_of b c);
}

unfoldable pub comparison_of : List ℕ → List ℕ → Comparison
comparison_of b c = compared_after (sheet_check b then sheet_check c) b c

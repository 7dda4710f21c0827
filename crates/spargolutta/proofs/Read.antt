-- What reading hands to C. Proved, in order: read_points (the points fit C's numbers); opened_fill, refused_fill,
-- short_fill, whole_fill (by what opening handed on), few_vertices, fill_passed, row_length, row_filled (the buffer that holds the vertices).
use mathlib.Core.Path.{◌≡◌, refl, sym, ap, ◌∙◌}
use mathlib.Core.List.{List, ◌++◌}
use Prim.Native.Nat.{ℕ, ◌+◌, ◌*◌, ◌≤◌, ◌<◌, zero-le}
use native.Mathlib.Omega.{arith}
use borrow.Author.Tests.{lt-ltb, le-ltb, ltb-false}
use lib.IntN.{pos}
use lib.ListN.{length, take, drop, length-drop}
use lib.Seq.{sets, sets-eq, length-take-le}
use Rattle.sphere.specs.Point.{Fits, Within}
use Rattle.std.specs.declared.result.Result.TheVariants.{Ok, Err}
use Rattle.answer.specs.declared.Reason.TheVariants.{ResultRoom}
use Rattle.answer.specs.declared.Refusal.{Refusal}
use Rattle.answer.specs.Refusal.{Check, refused_at}
use Rattle.answer.proofs.Laws.Chain.{here_passed, then_passed}
use Rattle.polygon.proofs.Laws.Checks.{accept_passed}
use Rattle.fields.specs.Fields.{grid_of, vertices_start}
use Rattle.fields.specs.Parts.{value_after}
use Rattle.fields.proofs.Laws.Parts.{passed_value, refused_value}
use Rattle.fields.proofs.Laws.Fields.{passed_spans}
use Rattle.sheet.specs.Sheet.{sheet_check, read_of, vertices_of, vertex_count_of, known_of, second_of}
use Rattle.sheet.specs.Open.{opened_of, opened_after}
use Rattle.sheet.specs.declared.open.Opened.{Opened}
use Rattle.sheet.specs.declared.read.Sheet.{Sheet}
use Rattle.sheet.proofs.Laws.Accepted.{within_word, optional_small}
use Rattle.sheet.proofs.Laws.Reads.{sheet_accepted, sheet_optional, sheet_five, read_refused, read_accepted}
use Rattle.spargolutta.specs.Reading.{row_of, fill_check, filled_to}

-- ---- the points
pub record Small (s : Sheet) : Type 0 where
  pub at-known : Within 2147483647 s.known
  pub at_second : Within 2147483647 s.second

nought : Fits 2147483647 (pos 0)
nought = record { within = zero-le }

pub read_points : (b : List ℕ) → Small (read_of b)
read_points b = go (sheet_check b) refl
  where
    go : (c : Check) → sheet_check b ≡ c → Small (read_of b)
    go (Err refusal) e =
        rw (read_refused b e) (record {
          at-known = record { at_x = nought; at_y = nought; at_z = nought };
          at_second = record { at_x = nought; at_y = nought; at_z = nought };
        })
    go (Ok unit) e =
        rw (read_accepted b e) (record {
          at-known = within_word (grid_of b) (accept_passed (sheet_accepted b e)).known;
          at_second = optional_small (grid_of b) (vertices_of b) (known_of b) (second_of b) (sheet_optional b e);
        })

-- ---- the vertices
module _ (b : List ℕ) where
  -- What opening handed on, and what is said of the room.
  pub opened_fill : {o : Opened} → opened_after (sheet_check b) b ≡ Ok o → (sheet_check b ≡ Ok tt) × (o ≡ opened_of b)
  opened_fill e = let v = passed_value (sheet_check b) e in (v.0, v.1)

  pub refused_fill : (room : ℕ) {refusal : Refusal} → opened_after (sheet_check b) b ≡ Err refusal →
      Err refusal ≡ value_after (fill_check b room) (opened_of b)
  unfolding fill_check
  refused_fill room e = rw (refused_value (sheet_check b) (opened_of b) e)

  pub short_fill : (room : ℕ) → sheet_check b ≡ Ok tt → room < vertex_count_of b * 12 →
      Err (refused_at ResultRoom (vertex_count_of b * 12)) ≡ value_after (fill_check b room) (opened_of b)
  unfolding fill_check
  short_fill room e h = rw (e, lt-ltb room (vertex_count_of b * 12) h)

  pub whole_fill : (room : ℕ) → sheet_check b ≡ Ok tt → vertex_count_of b * 12 ≤ room →
      Ok (opened_of b) ≡ value_after (fill_check b room) (opened_of b)
  unfolding fill_check
  whole_fill room e h = rw (e, le-ltb room (vertex_count_of b * 12) h)

  pub few_vertices : sheet_check b ≡ Ok tt → vertex_count_of b ≤ 4096
  few_vertices e = let h = (passed_spans b (sheet_five b e)).row.high in omega (arith, h)

  pub fill_passed : (room : ℕ) → fill_check b room ≡ Ok tt → (sheet_check b ≡ Ok tt) × (vertex_count_of b * 12 ≤ room)
  unfolding fill_check
  fill_passed room e =
      let both = then_passed (sheet_check b) _ e in
      (both.0, ltb-false room (vertex_count_of b * 12) (here_passed ResultRoom _ _ both.1))

  pub row_length : sheet_check b ≡ Ok tt → length (row_of b) ≡ vertex_count_of b * 12
  unfolding row_of
  row_length e =
      let spans = passed_spans b (sheet_five b e) in
      length-take-le (vertex_count_of b * 12) (drop (vertices_start b + 3) b)
      (omega (arith, length-drop (vertices_start b + 3) b, spans.second_at, spans.ends))

  pub row_filled : (buffer : List ℕ) → fill_check b (length buffer) ≡ Ok tt →
      sets buffer 0 (take (vertex_count_of b * 12) (drop (vertices_start b + 3) b)) ≡ filled_to b buffer
  unfolding filled_to row_of
  row_filled buffer e =
      let told = fill_passed (length buffer) e in
      let row = take (vertex_count_of b * 12) (drop (vertices_start b + 3) b) in
      let long = row_length told.0 in
      let z : 0 + length row ≡ length row = omega arith in
      sets-eq row buffer 0 (omega (arith, told.1, long)) ∙ ap (λ (k : ℕ). row ++ drop k buffer) z ∙ sym (rw e)

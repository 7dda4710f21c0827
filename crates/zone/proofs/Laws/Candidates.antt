-- Candidates in bytes (document 02, P4). Proved, in order: candidate_point (candidate i stands at byte 12i),
-- candidates_whole, candidates_count; chosen_accepted (choosing, where the polygon is accepted), choose_short,
-- choose_passed, choose_failed (how choosing by a sheet ends).
use mathlib.Core.Path.{◌≡◌, sym, ap, ◌∙◌}
use mathlib.Core.Bool.{true}
use mathlib.Core.List.{List}
use Prim.Native.Nat.{ℕ, ◌+◌, ◌*◌, ◌%◌, ◌<◌}
use native.Mathlib.Omega.{arith}
use borrow.Author.Tests.{eq-eqb, ne_eqb}
use lib.IntN.{ℤ}
use lib.ListN.{length}
use Rattle.sphere.specs.declared.point.Point.{Point}
use Rattle.sphere.specs.Point.{limit_of}
use Rattle.big_endian.specs.Bytes.{point_at}
use Rattle.big_endian.proofs.Laws.Rows.{ints_at-length}
use Rattle.std.specs.declared.option.Option.{Option}
use Rattle.std.specs.declared.result.Result.TheVariants.{Ok, Err}
use Rattle.answer.specs.declared.Refusal.{Refusal}
use Rattle.answer.specs.declared.Reason.TheVariants.{VertexList}
use Rattle.answer.specs.Refusal.{refused_at}
use Rattle.answer.specs.Search.{first_from}
use Rattle.polygon.specs.Vertices.{vertices_count, vertex_at}
use Rattle.polygon.specs.Checks.{accept_check}
use Rattle.polygon.specs.Pair.{is_second, is_whole, chosen, earliest_of, choose_of}
use Rattle.answer.proofs.Laws.Chain.{after_then}
use Rattle.fields.specs.Fields.{grid_of, fields_check}
use Rattle.sheet.specs.Sheet.{known_of, vertices_of, plain_check}
use Rattle.zone.specs.Choose.{candidate_count, candidates_of, whole_check, sheet_choose_of}
use Rattle.sheet.proofs.Laws.Points.{row_point}
use Rattle.sheet.proofs.Laws.Reads.{plain_passed}

-- ---- candidate i
pub candidate_point : (candidates : List ℕ) (i : ℕ) → i < candidate_count candidates →
    vertex_at (candidates_of candidates) i ≡ point_at candidates (i * 12)
candidate_point candidates i h =
    let front : 0 + i * 12 ≡ i * 12 = omega arith in
    row_point candidates 0 (candidate_count candidates) i h ∙ ap (point_at candidates) front

-- ---- all of them
candidates_length : (candidates : List ℕ) → length (candidates_of candidates) ≡ candidate_count candidates * 3
candidates_length candidates = ints_at-length candidates 0 (candidate_count candidates * 3)

candidates_whole : (candidates : List ℕ) → is_whole (candidates_of candidates) ≡ true
candidates_whole candidates =
    eq-eqb (length (candidates_of candidates) % 3) 0 (omega (arith, candidates_length candidates))

candidates_count : (candidates : List ℕ) → vertices_count (candidates_of candidates) ≡ candidate_count candidates
candidates_count candidates = omega (arith, candidates_length candidates)

pub chosen_accepted :
    (limit : ℕ) (vs : List ℤ) (X : Point) (candidates : List ℕ) → accept_check limit vs X ≡ Ok tt → {found : Option ℕ} →
    first_from (λ i. is_second limit vs X (vertex_at (candidates_of candidates) i)) 0 (candidate_count candidates) ≡ found →
    choose_of limit vs X (candidates_of candidates) ≡ chosen found
unfolding choose_of earliest_of
chosen_accepted limit vs X candidates ok e =
    rw (candidates_whole candidates, ok, candidates_count candidates) (ap chosen e)

-- ---- how choosing by a sheet ends
module _ (b candidates : List ℕ) where
  pub choose_short : (length candidates % 12 ≡ 0 → ⊥) → sheet_choose_of b candidates ≡ Err (refused_at VertexList 0)
  unfolding sheet_choose_of whole_check
  choose_short h = rw (ne_eqb (length candidates % 12) 0 h)

  module _ (whole : length candidates % 12 ≡ 0) where
    whole_passed : whole_check candidates ≡ Ok tt
    unfolding whole_check
    whole_passed = rw (eq-eqb (length candidates % 12) 0 whole)

    pub choose_passed : plain_check b ≡ Ok tt →
        sheet_choose_of b candidates ≡ choose_of (limit_of (grid_of b)) (vertices_of b) (known_of b) (candidates_of candidates)
    unfolding sheet_choose_of
    choose_passed e = rw (whole_passed, (plain_passed b e).0)

    pub choose_failed : {refusal : Refusal} → plain_check b ≡ Err refusal → sheet_choose_of b candidates ≡ Err refusal
    unfolding sheet_choose_of choose_of plain_check
    choose_failed e =
        let accept = accept_check (limit_of (grid_of b)) (vertices_of b) (known_of b) in
        rw (whole_passed, candidates_whole candidates) (sym (after_then (fields_check b) accept _) ∙ rw e)

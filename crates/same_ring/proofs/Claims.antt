-- The proofs of specs/Claims. Proved, in order: same_ring_unmoved, same_ring_pair_unmoved, same_ring_verdicts;
-- read_number, read_way, way_passed, number_passed, way_ring, ring_way, known_same; same_ring_sheets, same_ring_feeds; ring_field.
use mathlib.Core.Path.{◌≡◌, refl, sym, ◌∙◌}
use mathlib.Core.Bool.{Bool, true, false, true≢false}
use mathlib.Core.List.{List}
use Prim.Native.Nat.{ℕ}
use native.Mathlib.Omega.{arith}
use Rattle.sphere.specs.Point.{limit_of}
use Rattle.sphere.specs.Direction.{is_same_direction}
use Rattle.std.specs.declared.result.Result.TheVariants.{Ok, Err}
use Rattle.answer.specs.Refusal.{Check}
use Rattle.answer.specs.Chain.{◌then◌}
use Rattle.answer.proofs.Laws.Chain.{then_passed}
use Rattle.answer.proofs.Laws.Numbers.{Numbered, ◌both◌}
use Rattle.polygon.proofs.Laws.Pair.{optional_first}
use Rattle.fields.specs.Fields.{grid_of}
use Rattle.sheet.specs.Sheet.{known_of, vertices_of, sheet_check}
use Rattle.sheet.proofs.Laws.Numbers.{Above, above_sheet}
use Rattle.sheet.proofs.Laws.Reads.{sheet_accepted}
use Rattle.compare.specs.Ring.{SameRing, placed_of, way_of}
use Rattle.compare.specs.declared.differences.Field.{Field}
use Rattle.compare.specs.declared.differences.Field.TheVariants.{ZoneNumber, CharacterSet, Name, KnownPoint, Vertices}
use Rattle.compare.specs.declared.differences.Field.TheVariants.{WhichGrid, SecondPoint}
use Rattle.compare.specs.Differences.{field_number}
use Rattle.compare.specs.Comparison.{compared_after, comparison_of}
use Rattle.compare.specs.Claims.{Same}
use Rattle.compare.proofs.RingClaims.{same_ring_told}
use Rattle.compare.proofs.Claims.{fields_exact}
use Rattle.redraw.proofs.Claims.{redrawn_holds, accepted, whole_list}
use Rattle.redraw.proofs.Pair.{pair_unmoved, redrawn_verdicts, first_passed}
use Rattle.redrawn_sheets.proofs.Claims.{redrawn_sheets, agreeing}
use Rattle.same_ring.specs.Claims.{SameRingUnmoved, SameRingPairUnmoved, SameRingVerdicts, Told}
use Rattle.same_ring.specs.Claims.{SameRingSheets, SameRingFeeds, RingField}
use Rattle.same_ring.proofs.Ring.{ring_redrawn}

-- ---- over lists: an accepted list is of whole vertices
pub same_ring_unmoved : SameRingUnmoved
same_ring_unmoved ls rs s limit limit' X X' P P' b =
    redrawn_holds ls rs (ring_redrawn ls rs (whole_list limit' rs X' (accepted limit' rs X' P' b.second)) s)
    limit limit' X X' P P' b

pub same_ring_pair_unmoved : SameRingPairUnmoved
same_ring_pair_unmoved ls rs s limit limit' X X₂ Y Y₂ P P' b =
    pair_unmoved ls rs
    (ring_redrawn ls rs (whole_list limit' rs Y (optional_first limit' rs Y Y₂ b.second)) s)
    limit limit' X X₂ Y Y₂ P P' b

pub same_ring_verdicts : SameRingVerdicts
same_ring_verdicts ls rs s limit limit' X X₂ Y Y₂ P P' b =
    redrawn_verdicts ls rs
    (ring_redrawn ls rs (whole_list limit' rs Y
    (optional_first limit' rs Y Y₂ (first_passed limit' rs Y Y₂ P' b.second))) s)
    limit limit' X X₂ Y Y₂ P P' b

-- ---- what comparing two sheets tells
after_way : (k : Check) (b c : List ℕ) → ((compared_after k b c).way ≡ 0 → ⊥) → k ≡ Ok tt
after_way (Ok unit) b c h = refl
after_way (Err refusal) b c h = absurd (h refl)

after_number : (k : Check) (b c : List ℕ) → Numbered (Above 10) k → (compared_after k b c).number ≡ 0 → k ≡ Ok tt
after_number (Ok unit) b c h e = refl
after_number (Err refusal) b c h e = let late = h.each refusal refl in absurd (omega arith)

module _ (b c : List ℕ) where
  abbrev check : Check
  check = sheet_check b then sheet_check c

  read_number : check ≡ Ok tt → (comparison_of b c).number ≡ 0
  unfolding comparison_of
  read_number e = rw e

  read_way : check ≡ Ok tt → (comparison_of b c).way ≡ way_of (placed_of (vertices_of b) (vertices_of c))
  unfolding comparison_of
  read_way e = rw e

  way_passed : ((comparison_of b c).way ≡ 0 → ⊥) → check ≡ Ok tt
  unfolding comparison_of
  way_passed h = after_way check b c h

  number_passed : (comparison_of b c).number ≡ 0 → check ≡ Ok tt
  unfolding comparison_of
  number_passed e = after_number check b c (above_sheet b both above_sheet c) e

  way_ring : check ≡ Ok tt → ((comparison_of b c).way ≡ 0 → ⊥) → SameRing (vertices_of b) (vertices_of c)
  way_ring e h = (same_ring_told (vertices_of b) (vertices_of c)).way→same (λ w. h (read_way e ∙ w))

  ring_way : check ≡ Ok tt → SameRing (vertices_of b) (vertices_of c) → (comparison_of b c).way ≡ 0 → ⊥
  ring_way e s w = (same_ring_told (vertices_of b) (vertices_of c)).same→way s (sym (read_way e) ∙ w)

  -- a field that is not told is the same
  known_same : check ≡ Ok tt → (Told b c (field_number KnownPoint) → ⊥) →
      is_same_direction (known_of b) (known_of c) ≡ true
  known_same e h = go (is_same_direction (known_of b) (known_of c)) refl
    where
      go : (t : Bool) → is_same_direction (known_of b) (known_of c) ≡ t → t ≡ true
      go true d = refl
      go false d = absurd (h ((fields_exact b c (read_number e)).every_one KnownPoint (λ s. true≢false (sym s ∙ d))))

pub same_ring_sheets : SameRingSheets
same_ring_sheets b c f =
    let e = way_passed b c f.way in
    let right = sheet_accepted c (then_passed (sheet_check b) (sheet_check c) e).1 in
    redrawn_sheets b c (record {
      known = known_same b c e f.known;
      outline = ring_redrawn (vertices_of b) (vertices_of c)
          (whole_list (limit_of (grid_of c)) (vertices_of c) (known_of c) right) (way_ring b c e f.way);
    })

pub same_ring_feeds : SameRingFeeds
same_ring_feeds b c f = agreeing b c (same_ring_sheets b c f)

-- ---- field 5
five_only : (b c : List ℕ) (f : Field) → 5 ≡ field_number f → (Same b c f → ⊥) →
    SameRing (vertices_of b) (vertices_of c) → ⊥
five_only b c ZoneNumber e h s = omega arith
five_only b c CharacterSet e h s = omega arith
five_only b c Name e h s = omega arith
five_only b c KnownPoint e h s = omega arith
five_only b c Vertices e h s = h s
five_only b c WhichGrid e h s = omega arith
five_only b c SecondPoint e h s = omega arith

pub ring_field : RingField
ring_field b c read =
    let e = number_passed b c read in
    let exact = fields_exact b c read in (
      λ way told. let named = exact.no_other told.at told.below in
          five_only b c named.field (sym told.stands ∙ named.named) named.other (way_ring b c e way),
      λ none way. none (exact.every_one Vertices (λ s. ring_way b c e s way)),
    )

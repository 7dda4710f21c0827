-- One list with a pair of reference points, over a grid that holds its own: the parity from the point that judges is
-- the bit of the first point plus the bit of the query. Proved, in order: number_by_lem (the answer's number, by that
-- parity), second_bit (an accepted second point has the bit of the first), arc_judged. Redrawn lists (Pair) and crate
-- separation stand on it.
use mathlib.Core.Path.{◌≡◌, refl, sym, ◌∙◌, ap}
use mathlib.Core.Bool.{Bool, true, false}
use mathlib.Core.List.{List}
use Prim.Native.Nat.{ℕ, ◌≤◌}
use native.Mathlib.Omega.{arith}
use lib.IntN.{ℤ}
use Rattle.sphere.specs.declared.point.Point.{Point}
use Rattle.sphere.specs.Point.{is_null}
use Rattle.sphere.proofs.Parity.{◌⊕◌, ⊕-equal}
use Rattle.sphere.proofs.Laws.Grid.{within_more}
use Rattle.std.specs.declared.option.Option.TheVariants.{None}
use Rattle.std.specs.declared.result.Result.TheVariants.{Ok}
use Rattle.answer.specs.Answer.{number_of}
use Rattle.answer.proofs.Laws.Search.{first_none}
use Rattle.polygon.specs.Vertices.{vertices_count}
use Rattle.polygon.specs.Checks.{accept_check, query_check}
use Rattle.polygon.specs.Verdict.{is_on_border, boundary_of}
use Rattle.polygon.specs.Pair.{judge_from, optional_check, optional_answer_of}
use Rattle.polygon.proofs.Laws.Checks.{Reference, reference_accepted, query_passed}
use Rattle.polygon.proofs.Laws.Pair.{optional_first, optional_second, judge_either, judge_accepted, optional_judged}
use Rattle.polygon.proofs.Potential.{arc, bit, arc_bits}
use Rattle.polygon.proofs.Verdict.{number_by, number_judged, near, pair_passed, accepted_clears, called}

even : (b : Bool) → number_by None b ≡ 1 → b ≡ false
even true e = absurd (omega arith)
even false e = refl

-- ---- one list, and a grid that holds its own
module _ (limit wide : ℕ) (more : limit ≤ wide) (vs : List ℤ) where
  reference_more : (X : Point) → accept_check limit vs X ≡ Ok tt → Reference wide vs X
  reference_more X e = let r = reference_accepted limit vs X e in record {
    accepted = record {
      listed = r.accepted.listed;
      gridded = record { each = λ i h. within_more more (r.accepted.gridded.each i h) };
      known = within_more more r.accepted.known;
    };
    off_circle = r.off_circle;
  }

  module _ (X X₂ P : Point) (x : optional_check limit vs X X₂ ≡ Ok tt) (p : query_check limit P ≡ Ok tt)
      (fair : number_of (optional_answer_of limit vs X X₂ P) ≡ 18 → ⊥) where
    abbrev U : Point
    U = judge_from X X₂ P

    pub number_by_lem : number_of (optional_answer_of limit vs X X₂ P) ≡ number_by (boundary_of vs P) (arc vs U P)
    number_by_lem = ap number_of (optional_judged limit vs X X₂ P x)
        ∙ number_judged limit vs U P (pair_passed limit vs X X₂ P x p fair)

    pub second_bit : is_null X₂ ≡ false → bit wide vs X₂ ≡ bit wide vs X
    second_bit some =
        let s = optional_second limit vs X X₂ x some in
        let first = optional_first limit vs X X₂ x in
        let c = called limit vs X X₂ 1 first s.accepted (omega arith) s.inside in
        let r = reference_more X₂ s.accepted in
        sym (⊕-equal (bit wide vs X) (bit wide vs X₂)
        (sym (arc_bits wide vs X X₂ (reference_more X first) r.accepted.known c.near
        (accepted_clears wide vs X₂ r)) ∙ even (arc vs X X₂) c.parity))

    pub arc_judged : boundary_of vs P ≡ None → arc vs U P ≡ (bit wide vs X ⊕ bit wide vs P)
    unfolding boundary_of
    arc_judged none =
        arc_bits wide vs U P (reference_more U (judge_accepted limit vs X X₂ x P)) (within_more more (query_passed p))
        (near limit vs X X₂ P x p fair) (λ i. first_none (is_on_border vs P) 0 (vertices_count vs) i none)
        ∙ ap (λ b. b ⊕ bit wide vs P)
        (judge_either X X₂ P (λ U. bit wide vs U ≡ bit wide vs X) refl (λ far some. second_bit some))

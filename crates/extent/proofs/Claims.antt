-- Proof of the claim of the far side. Proved, in order: judged (what a verdict tells of the sheet and the query),
-- far_alike.
use mathlib.Core.Path.{◌≡◌, sym, subst}
use mathlib.Core.List.{List}
use Prim.Native.Nat.{ℕ, ◌≤◌, ◌<◌}
use native.Mathlib.Omega.{arith}
use lib.IntN.{ℤ}
use Rattle.sphere.specs.declared.point.Point.{Point}
use Rattle.sphere.specs.Point.{limit_of}
use Rattle.std.specs.declared.result.Result.TheVariants.{Ok}
use Rattle.answer.specs.Answer.{number_of}
use Rattle.polygon.specs.Vertices.{vertices_count, vertex_at}
use Rattle.polygon.specs.Pair.{optional_check, optional_answer_of}
use Rattle.polygon.proofs.Laws.Pair.{optional_first, optional_judged}
use Rattle.polygon.proofs.Laws.Checks.{reference_accepted}
use Rattle.redraw.proofs.Pair.{after_passed, query_on_grid, not_far}
use Rattle.separation.specs.Separation.{Separates, away_of}
use Rattle.separation.specs.Claims.{OneSide, Heard}
use Rattle.separation.proofs.Behind.{reverse_behind}
use Rattle.separation.proofs.Claims.{separated_alike}
use Rattle.separation.proofs.Laws.Far.{near_heard, away_near, away_on_grid}
use Rattle.fields.specs.Fields.{grid_of}
use Rattle.sheet.specs.Sheet.{known_of, vertices_of, second_of, sheet_check}
use Rattle.sheet.proofs.Laws.Numbers.{sheet_numbered}
use Rattle.sheet.proofs.Laws.Reads.{sheet_optional}
use Rattle.zone.specs.Judge.{sheet_answer_of}
use Rattle.extent.specs.Claims.{FarAlike}

module _ (b : List ℕ) where
  limit : ℕ
  limit = limit_of (grid_of b)

  vs : List ℤ
  vs = vertices_of b

  X : Point
  X = known_of b

  Y : Point
  Y = second_of b

  -- ---- a verdict comes from a good sheet
  late : (P : Point) → number_of (sheet_answer_of b P) ≤ 3 → sheet_check b ≡ Ok tt
  unfolding sheet_answer_of
  late P h = after_passed {Is = λ n. 3 < n} (λ n l. l) (sheet_check b) _
      (sheet_numbered (λ n. 3 < n) (λ n l m. omega arith) (λ n l m. omega arith) b) h

  module _ (ok : sheet_check b ≡ Ok tt) where
    x : optional_check limit vs X Y ≡ Ok tt
    unfolding limit vs X Y
    x = sheet_optional b ok

    same : (P : Point) → sheet_answer_of b P ≡ optional_answer_of limit vs X Y P
    unfolding limit vs X Y sheet_answer_of
    same P = rw ok (sym (optional_judged (limit_of (grid_of b)) (vertices_of b) (known_of b) (second_of b) P x))

    heard : (P : Point) → number_of (sheet_answer_of b P) ≤ 3 → Heard limit vs X Y P
    heard P h =
        let k : number_of (optional_answer_of limit vs X Y P) ≤ 3 = subst (λ a. number_of a ≤ 3) (same P) h in
        record { on_grid_lem = query_on_grid limit vs X Y P k; fair = not_far limit vs X Y P k }

    some : 0 < vertices_count vs
    some = let l = (reference_accepted limit vs X (optional_first limit vs X Y x)).accepted.listed.least in omega arith

    -- ---- the antipode of vertex 0 is behind the same plane
    alike : (N P : Point) → number_of (sheet_answer_of b P) ≤ 3 → Separates vs N P →
        OneSide (sheet_answer_of b (away_of vs)) (sheet_answer_of b P)
    alike N P h s =
        let back : Separates vs N (away_of vs) = record {
          ahead = s.ahead;
          behind = reverse_behind N (vertex_at vs 0) (s.ahead.each 0 some);
        } in
        rw (same (away_of vs), same P)
        (separated_alike limit vs X Y N N (away_of vs) P x back s
        (near_heard limit vs X Y x (away_of vs) (away_on_grid limit vs X Y x) (away_near limit vs X Y x)) (heard P h))

pub far_alike : FarAlike
unfolding vs
far_alike b N P h s = alike b (late b P h) N P h s

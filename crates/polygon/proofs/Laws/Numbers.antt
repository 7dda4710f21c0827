-- The numbers that the checks of lines 10 to 19 and the verdict may have, by any property of them. Proved, in order:
-- list_numbered, second_numbered, accept_numbered, pair_numbered, optional_numbered, judge_numbered; parity_numbered,
-- verdict_numbered, answer_numbered. Of checks of any kind: answer's Laws/Numbers.
use mathlib.Core.Bool.{Bool, true, false, not, cond}
use mathlib.Core.List.{List}
use Prim.Native.Nat.{ℕ, ◌<◌, ◌%◌}
use native.Mathlib.Omega.{arith}
use lib.Dec.{eqb, lit<}
use lib.IntN.{ℤ}
use Rattle.integers.specs.Sign.{sign_of, is_zero}
use Rattle.sphere.specs.declared.point.Point.{Point}
use Rattle.sphere.specs.Point.{is_null, is_off_grid}
use Rattle.sphere.specs.Orientation.{orientation_of}
use Rattle.sphere.specs.Direction.{is_antipodal}
use Rattle.std.specs.declared.option.Option.{Option}
use Rattle.std.specs.declared.option.Option.TheVariants.{None, Some}
use Rattle.std.specs.declared.result.Result.TheVariants.{Ok}
use Rattle.answer.specs.declared.Reason.TheVariants.{QueryAntipodal, QueryOffGrid, ReferenceOffGrid, ReferenceOnCircle, SecondPoint, VertexList}
use Rattle.answer.specs.declared.Verdict.TheVariants.{Inside, Outside}
use Rattle.answer.specs.Search.{first_from}
use Rattle.polygon.specs.Vertices.{vertices_count, start_of, end_of}
use Rattle.answer.specs.Answer.{number_of}
use Rattle.polygon.specs.Checks.{is_vertex_list, list_check, reference_check, circle_check, query_check, far_check, beyond_check, null_check, same_check, antipodal_check}
use Rattle.polygon.specs.Checks.{polygon_check, accept_check, judge_check}
use Rattle.polygon.specs.Verdict.{boundary_of, crossings_of, winding_of, verdict_by, verdict_of, answer_of}
use Rattle.polygon.specs.Pair.{is_second, second_check, pair_check, optional_check}
use Rattle.answer.proofs.Laws.Numbers.{Numbered, ◌both◌, if_numbered, at_numbered, unless_numbered, after_numbered}

-- ---- lines 10 to 19
module _ (Is : ℕ → Type 0) (limit : ℕ) (vs : List ℤ) where
  pub list_numbered : Is 10 → Numbered Is (list_check vs)
  unfolding list_check
  list_numbered h = if_numbered VertexList (not (is_vertex_list vs)) h

  pub second_numbered : (X Y : Point) → Is 19 → Numbered Is (second_check limit vs X Y)
  unfolding second_check
  second_numbered X Y h = if_numbered SecondPoint (not (is_second limit vs X Y)) h

  module _ (list : Numbered Is (list_check vs)) (h : (n : ℕ) → 10 < n → n < 17 → Is n) (X : Point) where
    -- Lines 11 to 14, whichever of these reasons each has: that is for the contracts to say.
    beyond : Numbered Is (beyond_check limit vs)
    unfolding beyond_check
    beyond = at_numbered _ _ (h _ (lit< tt) (lit< tt))

    null : Numbered Is (null_check vs)
    unfolding null_check
    null = at_numbered _ _ (h _ (lit< tt) (lit< tt))

    same : Numbered Is (same_check vs)
    unfolding same_check
    same = at_numbered _ _ (h _ (lit< tt) (lit< tt))

    antipodal : Numbered Is (antipodal_check vs)
    unfolding antipodal_check
    antipodal = at_numbered _ _ (h _ (lit< tt) (lit< tt))

    reference : Numbered Is (reference_check limit X)
    unfolding reference_check
    reference = if_numbered ReferenceOffGrid (is_off_grid limit X) (h 15 (lit< tt) (lit< tt))

    circle : Numbered Is (circle_check vs X)
    unfolding circle_check
    circle =
        let test : ℕ → Bool = λ i. is_zero (sign_of (orientation_of (start_of vs i) (end_of vs i) X)) in
        at_numbered ReferenceOnCircle (first_from test 0 (vertices_count vs)) (h 16 (lit< tt) (lit< tt))

    pub accept_numbered : Numbered Is (accept_check limit vs X)
    unfolding accept_check polygon_check
    accept_numbered = (list both beyond both null both same both antipodal) both reference both circle

    pub pair_numbered : Is 19 → (Y : Point) → Numbered Is (pair_check limit vs X Y)
    unfolding pair_check
    pair_numbered h19 Y = accept_numbered both second_numbered X Y h19

    pub optional_numbered : Is 19 → (Y : Point) → Numbered Is (optional_check limit vs X Y)
    unfolding optional_check
    optional_numbered h19 Y = accept_numbered both unless_numbered (is_null Y) (second_numbered X Y h19)

    pub judge_numbered : Is 17 → Is 18 → (P : Point) → Numbered Is (judge_check limit vs X P)
    unfolding judge_check query_check far_check
    judge_numbered h17 h18 P =
        accept_numbered both if_numbered QueryOffGrid (is_off_grid limit P) h17 both if_numbered QueryAntipodal (is_antipodal X P) h18

-- ---- the verdict: 1, 2 and 3
module _ (Is : ℕ → Type 0) (h1 : Is 1) (h2 : Is 2) where
  pub parity_numbered : (even : Bool) (c : ℕ) (s : ℤ) → Is (number_of (cond even (Ok (Inside c s)) (Ok (Outside c s))))
  parity_numbered true c s = h1
  parity_numbered false c s = h2

  pub verdict_numbered : Is 3 → (f : Option ℕ) (c : ℕ) (s : ℤ) → Is (number_of (verdict_by f c s))
  verdict_numbered h3 (Some edge) c s = h3
  verdict_numbered h3 None c s = parity_numbered (eqb (c % 2) 0) c s

-- The answer to any input: 1 to 3, or 10 to 18.
pub answer_numbered : (Is : ℕ → Type 0) (limit : ℕ) (vs : List ℤ) → ((n : ℕ) → 0 < n → n < 19 → Is n) →
    (X P : Point) → Is (number_of (answer_of limit vs X P))
unfolding answer_of verdict_of
answer_numbered Is limit vs h X P =
    after_numbered (judge_check limit vs X P) (verdict_of vs X P)
    (judge_numbered Is limit vs (list_numbered Is limit vs (h 10 (lit< tt) (lit< tt)))
    (λ n l m. h n (omega arith) (omega arith)) X (h 17 (lit< tt) (lit< tt)) (h 18 (lit< tt) (lit< tt)) P)
    (verdict_numbered Is (h 1 (lit< tt) (lit< tt)) (h 2 (lit< tt) (lit< tt)) (h 3 (lit< tt) (lit< tt))
    (boundary_of vs P) (crossings_of vs X P) (winding_of vs X P))

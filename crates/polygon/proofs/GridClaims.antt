-- The proofs of specs/GridClaims. Proved, in order: whole_other, answer_other, pair_other, choose_other (what stands
-- beside 28 has another number), mixed_exactly_holds; listed_answer, listed_pair, listed_choose (what follows 28 begins
-- with line 10 itself), one_grid_holds; on_each_grid_holds.
use mathlib.Core.Path.{◌≡◌, refl, sym}
use mathlib.Core.Bool.{false, not}
use mathlib.Core.List.{List, [], ◌∷◌}
use Prim.Native.Nat.{ℕ}
use native.Mathlib.Omega.{arith}
use lib.IntN.{ℤ}
use Rattle.sphere.specs.declared.point.Point.{Point}
use Rattle.sphere.specs.declared.point.Grid.{Grid}
use Rattle.sphere.specs.declared.point.Grid.TheVariants.{Coarse, Fine}
use Rattle.sphere.specs.Point.{limit_of}
use Rattle.std.specs.declared.option.Option.{Option}
use Rattle.std.specs.declared.option.Option.TheVariants.{None, Some}
use Rattle.std.specs.declared.result.Result.TheVariants.{Ok, Err}
use Rattle.answer.specs.declared.Refusal.{Refusal}
use Rattle.answer.specs.declared.Reason.TheVariants.{OtherGrid, VertexList}
use Rattle.answer.specs.Refusal.{Answer}
use Rattle.answer.specs.Refusal.{Check}
use Rattle.answer.specs.Search.{first_from}
use Rattle.polygon.specs.Vertices.{vertices_count, vertex_at}
use Rattle.answer.specs.Answer.{number_of, answer_after}
use Rattle.answer.specs.Chain.{◌then◌, fails_if}
use Rattle.polygon.specs.Checks.{list_check, polygon_check, accept_check, judge_check}
use Rattle.polygon.specs.Checks.{beyond_check, null_check, same_check, antipodal_check, reference_check, circle_check}
use Rattle.polygon.specs.Checks.{query_check, far_check}
use Rattle.polygon.specs.Verdict.{verdict_of, answer_of}
use Rattle.polygon.specs.Pair.{is_second, second_check, pair_check, judge_from, pair_answer_of}
use Rattle.polygon.specs.Pair.{is_whole, chosen, earliest_of, choose_of}
use Rattle.polygon.specs.Grids.{is_mixed, grid_check, grid_answer_of, grid_pair_of, grid_choose_of}
use Rattle.polygon.specs.GridClaims.{MixedExactly, OneGrid, OnEachGrid}
use Rattle.answer.proofs.Laws.Chain.{then_assoc}
use Rattle.answer.proofs.Laws.Numbers.{Numbered, Other, ◌both◌, if_numbered, after_numbered}
use Rattle.polygon.proofs.Laws.Numbers.{pair_numbered}
use Rattle.polygon.proofs.Laws.Numbers.{answer_numbered}
use Rattle.polygon.proofs.Laws.Mixed.{mixed_after, list_other, accept_other}
use Rattle.polygon.proofs.Demand2.{demand-2, demand-2-pair}
use Rattle.polygon.proofs.Demand3.{demand-3, demand-3-pair}

-- ---- 28
whole_other : (cs : List ℤ) → Numbered (Other 28) (fails_if VertexList (not (is_whole cs)))
whole_other cs = if_numbered VertexList (not (is_whole cs)) (λ e. omega arith)

module _ (limit : ℕ) (vs : List ℤ) where
  answer_other : (X P : Point) → Other 28 (number_of (answer_of limit vs X P))
  answer_other = answer_numbered (Other 28) limit vs (λ n l m e. omega (arith, m, e))

  pair_other : (X Y P : Point) → Other 28 (number_of (pair_answer_of limit vs X Y P))
  unfolding pair_answer_of
  pair_other X Y P =
      after_numbered (pair_check limit vs X Y) (answer_of limit vs (judge_from X Y P) P)
      (pair_numbered (Other 28) limit vs (list_other vs) (λ n l m e. omega (arith, m, e)) X (λ e. omega arith) Y)
      (answer_other (judge_from X Y P) P)

  choose_other : (X : Point) (cs : List ℤ) → Other 28 (number_of (choose_of limit vs X cs))
  unfolding choose_of earliest_of
  choose_other X cs =
      after_numbered (fails_if VertexList (not (is_whole cs)) then accept_check limit vs X) (earliest_of limit vs X cs)
      (whole_other cs both accept_other limit vs X)
      (go (first_from (λ i. is_second limit vs X (vertex_at cs i)) 0 (vertices_count cs)))
    where
      go : (f : Option ℕ) → Other 28 (number_of (chosen f))
      go None e = omega arith
      go (Some place) e = omega arith

pub mixed_exactly_holds : MixedExactly
unfolding grid_answer_of grid_pair_of grid_choose_of grid_check
mixed_exactly_holds = (
  λ g vs X P. mixed_after (list_check vs) _ _ (list_other vs) (answer_other (limit_of g) vs X.point P.point),
  λ g vs X Y P.
      mixed_after (list_check vs) _ _ (list_other vs) (pair_other (limit_of g) vs X.point Y.point P.point),
  λ g vs X h cs.
      let whole = fails_if VertexList (not (is_whole cs)) in
      rw (then_assoc whole (list_check vs) (fails_if OtherGrid (is_mixed g (X.grid ∷ h ∷ []))))
      (mixed_after (whole then list_check vs) _ _ (whole_other cs both list_other vs)
      (choose_other (limit_of g) vs X.point cs)),
)

-- ---- one grid

same_twice : (g : Grid) → is_mixed g (g ∷ g ∷ []) ≡ false
same_twice Coarse = refl
same_twice Fine = refl

same_thrice : (g : Grid) → is_mixed g (g ∷ g ∷ g ∷ []) ≡ false
same_thrice Coarse = refl
same_thrice Fine = refl

-- What follows a check that it begins with.
again : (c : Check) (answer : Check → Answer) → ((refusal : Refusal) → answer (Err refusal) ≡ Err refusal) →
    answer_after (c then (Ok tt)) (answer c) ≡ answer c
again (Ok unit) answer h = refl
again (Err refusal) answer h = sym (h refusal)

module _ (limit : ℕ) (vs : List ℤ) where
  -- Lines 11 to 16, after line 10.
  abbrev rest : Check → Point → Check
  rest c X =
      (c then beyond_check limit vs then null_check vs then same_check vs then antipodal_check vs)
      then reference_check limit X then circle_check vs X

  listed_answer : (X P : Point) → answer_after (list_check vs then (Ok tt)) (answer_of limit vs X P) ≡ answer_of limit vs X P
  unfolding answer_of judge_check accept_check polygon_check
  listed_answer X P =
      again (list_check vs) (λ c. answer_after (rest c X then query_check limit P then far_check X P) (verdict_of vs X P))
      (λ refusal. refl)

  listed_pair : (X Y P : Point) →
      answer_after (list_check vs then (Ok tt)) (pair_answer_of limit vs X Y P) ≡ pair_answer_of limit vs X Y P
  unfolding pair_answer_of pair_check accept_check polygon_check
  listed_pair X Y P =
      again (list_check vs)
      (λ c. answer_after (rest c X then second_check limit vs X Y) (answer_of limit vs (judge_from X Y P) P)) (λ refusal. refl)

  listed_choose : (X : Point) (cs : List ℤ) →
      answer_after (fails_if VertexList (not (is_whole cs)) then list_check vs then (Ok tt)) (choose_of limit vs X cs)
      ≡ choose_of limit vs X cs
  unfolding choose_of accept_check polygon_check
  listed_choose X cs = go (fails_if VertexList (not (is_whole cs)))
    where
      go : (whole : Check) →
          answer_after (whole then list_check vs then (Ok tt))
          (answer_after (whole then rest (list_check vs) X) (earliest_of limit vs X cs))
          ≡ answer_after (whole then rest (list_check vs) X) (earliest_of limit vs X cs)
      go (Ok unit) = again (list_check vs) (λ c. answer_after (rest c X) (earliest_of limit vs X cs)) (λ refusal. refl)
      go (Err refusal) = refl

pub one_grid_holds : OneGrid
unfolding grid_answer_of grid_pair_of grid_choose_of grid_check
one_grid_holds = (
  λ g vs X P. rw (same_twice g) (listed_answer (limit_of g) vs X P),
  λ g vs X Y P. rw (same_thrice g) (listed_pair (limit_of g) vs X Y P),
  λ g vs X cs. rw (same_twice g) (listed_choose (limit_of g) vs X cs),
)

-- ---- the demands
pub on_each_grid_holds : OnEachGrid
on_each_grid_holds g =
    (demand-2 (limit_of g), demand-3 (limit_of g), demand-2-pair (limit_of g), demand-3-pair (limit_of g))

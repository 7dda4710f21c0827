-- Document 02, P8: every record of points says its grid, and mixed grids in one call are refused: 28, after line 10 and
-- before line 11. Defined, in order: is_same, is_mixed, grid_check (10, 28), grid_of_second; grid_answer_of, grid_pair_of,
-- grid_choose_of (the calls' answers to any records). What follows 28 is by the outline's grid, as without it: it begins
-- with line 10 itself. Claims: specs/GridClaims.
use Rattle.std.specs.Prelude.{Bool, true, false, not, ◌||◌, cond, List, [], ◌∷◌, ℤ}
use Rattle.sphere.specs.declared.point.Grid.{Grid}
use Rattle.sphere.specs.declared.point.Grid.TheVariants.{Coarse, Fine}
use Rattle.sphere.specs.declared.point.GridPoint.{GridPoint}
use Rattle.sphere.specs.Point.{limit_of, is_null}
use Rattle.answer.specs.declared.Reason.TheVariants.{OtherGrid, VertexList}
use Rattle.answer.specs.Refusal.{Answer}
use Rattle.answer.specs.Refusal.{Check}
use Rattle.answer.specs.Answer.{answer_after}
use Rattle.answer.specs.Chain.{◌then◌, fails_if}
use Rattle.polygon.specs.Checks.{list_check}
use Rattle.polygon.specs.Verdict.{answer_of}
use Rattle.polygon.specs.Pair.{pair_answer_of, is_whole, choose_of}

abbrev pub is_same : Grid → Grid → Bool
is_same Coarse Coarse = true
is_same Coarse Fine = false
is_same Fine Coarse = false
is_same Fine Fine = true

-- One of the other records is not on the outline's grid.
abbrev pub is_mixed : Grid → List Grid → Bool
is_mixed outline [] = false
is_mixed outline (g ∷ gs) = not (is_same outline g) || is_mixed outline gs

-- Lines 10 and 28.
unfoldable pub grid_check : List ℤ → Bool → Check
grid_check vs mixed = list_check vs then fails_if OtherGrid mixed

-- The grid of a second point where there may be none (all zero): none has no grid of its own.
abbrev pub grid_of_second : Grid → GridPoint → Grid
grid_of_second outline Y = cond (is_null Y.point) outline Y.grid

-- ---- the calls

unfoldable pub grid_answer_of : Grid → List ℤ → GridPoint → GridPoint → Answer
grid_answer_of g vs X P =
    answer_after (grid_check vs (is_mixed g (X.grid ∷ P.grid ∷ []))) (answer_of (limit_of g) vs X.point P.point)

-- With both known points; here the second always counts: one of all zero is refused by 19.
unfoldable pub grid_pair_of : Grid → List ℤ → GridPoint → GridPoint → GridPoint → Answer
grid_pair_of g vs X Y P =
    answer_after (grid_check vs (is_mixed g (X.grid ∷ Y.grid ∷ P.grid ∷ [])))
    (pair_answer_of (limit_of g) vs X.point Y.point P.point)

-- Choosing among candidates, which have one grid: 10 for them, 10 for the outline, 28.
unfoldable pub grid_choose_of : Grid → List ℤ → GridPoint → Grid → List ℤ → Answer
grid_choose_of g vs X h cs =
    answer_after (fails_if VertexList (not (is_whole cs)) then grid_check vs (is_mixed g (X.grid ∷ h ∷ [])))
    (choose_of (limit_of g) vs X.point cs)

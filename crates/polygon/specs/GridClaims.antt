-- The promised theorems of document 02's P8, as statements. Their proofs are in proofs/GridClaims. Stated, in order:
-- MixedExactly (28 if and only if line 10 passes and a record is on another grid), OneGrid (with equal grids the answer
-- is as without 28), OnEachGrid (demands 2 and 3, for one known point and for two).
use Rattle.std.specs.Prelude.{◌≡◌, Bool, true, not, List, [], ◌∷◌, ℤ}
use Rattle.sphere.specs.declared.point.Point.{Point}
use Rattle.sphere.specs.declared.point.Grid.{Grid}
use Rattle.sphere.specs.declared.point.GridPoint.{GridPoint}
use Rattle.sphere.specs.Point.{limit_of}
use Rattle.std.specs.declared.result.Result.TheVariants.{Ok, Err}
use Rattle.answer.specs.declared.Reason.TheVariants.{OtherGrid, VertexList}
use Rattle.answer.specs.Refusal.{refused_at}
use Rattle.answer.specs.Refusal.{Answer}
use Rattle.answer.specs.Refusal.{Check}
use Rattle.answer.specs.Answer.{number_of}
use Rattle.answer.specs.Chain.{◌then◌, fails_if}
use Rattle.polygon.specs.Checks.{list_check}
use Rattle.polygon.specs.Verdict.{answer_of}
use Rattle.polygon.specs.Pair.{pair_answer_of, is_whole, choose_of}
use Rattle.polygon.specs.Grids.{is_mixed, grid_answer_of, grid_pair_of, grid_choose_of}
use Rattle.polygon.specs.Claims.{Demand2At, Demand3At}
use Rattle.polygon.specs.PairClaims.{Demand2PairAt, Demand3PairAt}

-- The answer is 28 exactly when the checks before it pass and the grids are mixed; its place is then 0.
pub record Mixed (answer : Answer) (before : Check) (mixed : Bool) : Type 0 where
  pub refused→mixed : number_of answer ≡ 28 → (before ≡ Ok tt) × (mixed ≡ true)
  pub mixed→refused : before ≡ Ok tt → mixed ≡ true → answer ≡ Err (refused_at OtherGrid 0)

abbrev pub MixedExactly : Type 0
MixedExactly =
    ((g : Grid) (vs : List ℤ) (X P : GridPoint) →
    Mixed (grid_answer_of g vs X P) (list_check vs) (is_mixed g (X.grid ∷ P.grid ∷ [])))
    × ((g : Grid) (vs : List ℤ) (X Y P : GridPoint) →
    Mixed (grid_pair_of g vs X Y P) (list_check vs) (is_mixed g (X.grid ∷ Y.grid ∷ P.grid ∷ [])))
    × ((g : Grid) (vs : List ℤ) (X : GridPoint) (h : Grid) (cs : List ℤ) →
    Mixed (grid_choose_of g vs X h cs) (fails_if VertexList (not (is_whole cs)) then list_check vs) (is_mixed g (X.grid ∷ h ∷ [])))

-- A point's record on a grid.
abbrev pub on : Grid → Point → GridPoint
on g X = record { grid = g; point = X }

abbrev pub OneGrid : Type 0
OneGrid =
    ((g : Grid) (vs : List ℤ) (X P : Point) → grid_answer_of g vs (on g X) (on g P) ≡ answer_of (limit_of g) vs X P)
    × ((g : Grid) (vs : List ℤ) (X Y P : Point) →
    grid_pair_of g vs (on g X) (on g Y) (on g P) ≡ pair_answer_of (limit_of g) vs X Y P)
    × ((g : Grid) (vs : List ℤ) (X : Point) (cs : List ℤ) →
    grid_choose_of g vs (on g X) g cs ≡ choose_of (limit_of g) vs X cs)

abbrev pub OnEachGrid : Type 0
OnEachGrid = (g : Grid) →
    Demand2At (limit_of g) × Demand3At (limit_of g) × Demand2PairAt (limit_of g) × Demand3PairAt (limit_of g)

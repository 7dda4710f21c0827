-- Judging a query: the verdict by a tally, and document 02's number of edges looked at (P2). Defined, in order:
-- verdict_on; looked_after, looked_of; grid_looked_of, grid_looked_pair_of (the calls' numbers for any records).
use Rattle.std.specs.Prelude.{List, [], ◌∷◌, ℕ, ℤ}
use Rattle.sphere.specs.declared.point.Point.{Point}
use Rattle.sphere.specs.declared.point.Grid.{Grid}
use Rattle.sphere.specs.declared.point.GridPoint.{GridPoint}
use Rattle.sphere.specs.Point.{limit_of}
use Rattle.std.specs.declared.option.Option.TheVariants.{None}
use Rattle.std.specs.declared.result.Result.TheVariants.{Ok, Err}
use Rattle.answer.specs.Refusal.{Check}
use Rattle.answer.specs.Refusal.{Answer}
use Rattle.answer.specs.declared.Verdict.TheVariants.{Boundary}
use Rattle.polygon.specs.Vertices.{vertices_count}
use Rattle.polygon.specs.Checks.{judge_check}
use Rattle.polygon.specs.Grids.{is_mixed, grid_check}
use Rattle.polygon.specs.Verdict.{verdict_by}
use Rattle.polygon.specs.Pair.{pair_check, judge_from}
use Rattle.search.specs.Walk.{looked_from}
use Rattle.search.specs.declared.walk.Tally.{Tally}
use Rattle.search.specs.declared.walk.Tally.TheVariants.{Held, Crossed}

abbrev pub verdict_on : Tally → Answer
verdict_on (Held edge) = Ok (Boundary edge)
verdict_on (Crossed crossed sum) = verdict_by None crossed sum

-- None for a refusal; else of all edges, for a boundary up to and including the edge named.
abbrev pub looked_after : Check → ℕ → ℕ
looked_after (Err refusal) looked = 0
looked_after (Ok unit) looked = looked

unfoldable pub looked_of : ℕ → List ℤ → Point → Point → ℕ
looked_of limit vs X P = looked_after (judge_check limit vs X P) (looked_from vs X P 0 (vertices_count vs))

-- With a grid for each record (document 02, P8).
unfoldable pub grid_looked_of : Grid → List ℤ → GridPoint → GridPoint → ℕ
grid_looked_of g vs X P =
    looked_after (grid_check vs (is_mixed g (X.grid ∷ P.grid ∷ []))) (looked_of (limit_of g) vs X.point P.point)

-- With both known points (document 02, P4): by the point that judges.
unfoldable pub grid_looked_pair_of : Grid → List ℤ → GridPoint → GridPoint → GridPoint → ℕ
grid_looked_pair_of g vs X Y P =
    looked_after (grid_check vs (is_mixed g (X.grid ∷ Y.grid ∷ P.grid ∷ [])))
    (looked_after (pair_check (limit_of g) vs X.point Y.point)
    (looked_of (limit_of g) vs (judge_from X.point Y.point P.point) P.point))

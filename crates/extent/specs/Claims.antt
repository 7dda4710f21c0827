-- The promised theorem of the far side, as a statement. Its proof is in proofs/Claims. Stated: FarAlike (a query that
-- is judged and lies strictly behind any plane that has all vertices strictly ahead gets the verdict of the far side,
-- that to the antipode of vertex 0, and it is inside or outside). So a number 1 or 2 of spg_far_number is the verdict
-- on all of them; that there are such planes it tells too (FarNumber).
use Rattle.std.specs.Prelude.{List, ℕ, ◌≤◌}
use Rattle.sphere.specs.declared.point.Point.{Point}
use Rattle.answer.specs.Answer.{number_of}
use Rattle.separation.specs.Separation.{Separates, away_of}
use Rattle.separation.specs.Claims.{OneSide}
use Rattle.sheet.specs.Sheet.{vertices_of}
use Rattle.zone.specs.Judge.{sheet_answer_of}

-- Judged: the number is at most 3 (the sheet is good, and the query gets neither 17 nor 18).
abbrev pub FarAlike : Type 0
FarAlike = (b : List ℕ) (N P : Point) → number_of (sheet_answer_of b P) ≤ 3 → Separates (vertices_of b) N P →
    OneSide (sheet_answer_of b (away_of (vertices_of b))) (sheet_answer_of b P)

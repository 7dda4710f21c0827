-- Document 02's P12 with second known points (P4), as statements. Their proofs are in proofs/Pair. Stated, in order:
-- PairUnmoved (no redrawing changes a verdict, whatever the second points), RedrawnVerdicts (the same by the answers
-- alone: 'judged' is a number of 1 to 3). A second point of all zero is none.
use Rattle.std.specs.Prelude.{◌≡◌, true, List, ℕ, ◌≤◌, ℤ}
use Rattle.sphere.specs.declared.point.Point.{Point}
use Rattle.sphere.specs.Direction.{is_same_direction}
use Rattle.std.specs.declared.result.Result.TheVariants.{Ok}
use Rattle.answer.specs.Answer.{number_of}
use Rattle.polygon.specs.Checks.{query_check}
use Rattle.polygon.specs.Pair.{optional_check, optional_answer_of}
use Rattle.redraw.specs.Redraw.{Redrawn}

-- Each list is accepted with its points, X and X₂ or Y and Y₂, and judges the query: neither answers 18.
pub record BothAnswered (limit limit' : ℕ) (vs ws : List ℤ) (X X₂ Y Y₂ P P' : Point) : Type 0 where
  pub reference : is_same_direction X Y ≡ true
  pub query : is_same_direction P P' ≡ true
  pub first : optional_check limit vs X X₂ ≡ Ok tt
  pub second : optional_check limit' ws Y Y₂ ≡ Ok tt
  pub first_query : query_check limit P ≡ Ok tt
  pub second_query : query_check limit' P' ≡ Ok tt
  pub first_near : number_of (optional_answer_of limit vs X X₂ P) ≡ 18 → ⊥
  pub second_near : number_of (optional_answer_of limit' ws Y Y₂ P') ≡ 18 → ⊥

-- The second points are the same, others, or none under one list. Where they differ the counts may.
abbrev pub SameNumbers : List ℤ → List ℤ → Type 0
SameNumbers vs ws = (limit limit' : ℕ) (X X₂ Y Y₂ P P' : Point) → BothAnswered limit limit' vs ws X X₂ Y Y₂ P P' →
    number_of (optional_answer_of limit' ws Y Y₂ P') ≡ number_of (optional_answer_of limit vs X X₂ P)

abbrev pub PairUnmoved : Type 0
PairUnmoved = (vs ws : List ℤ) → Redrawn vs ws → SameNumbers vs ws

-- Known points and queries equal in direction, and two answers that are verdicts: 1 to 3. (No answer is 0.)
pub record BothVerdicts (limit limit' : ℕ) (vs ws : List ℤ) (X X₂ Y Y₂ P P' : Point) : Type 0 where
  pub reference : is_same_direction X Y ≡ true
  pub query : is_same_direction P P' ≡ true
  pub first : number_of (optional_answer_of limit vs X X₂ P) ≤ 3
  pub second : number_of (optional_answer_of limit' ws Y Y₂ P') ≤ 3

abbrev pub SameVerdicts : List ℤ → List ℤ → Type 0
SameVerdicts vs ws = (limit limit' : ℕ) (X X₂ Y Y₂ P P' : Point) → BothVerdicts limit limit' vs ws X X₂ Y Y₂ P P' →
    number_of (optional_answer_of limit' ws Y Y₂ P') ≡ number_of (optional_answer_of limit vs X X₂ P)

abbrev pub RedrawnVerdicts : Type 0
RedrawnVerdicts = (vs ws : List ℤ) → Redrawn vs ws → SameVerdicts vs ws

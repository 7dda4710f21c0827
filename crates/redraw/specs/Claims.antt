-- The promised theorems of document 02's P12, as statements. Their proofs are in proofs/Claims.
-- Stated, in order: RedrawnMattersNot (the theorem: no redrawing changes a verdict or its count), and for readers one
-- for each redrawing: StartMattersNot, ReversalMattersNot, LengthMattersNot, AddedMattersNot; RedrawnSum (the sum of
-- document 02's P6 stays, or is negated by a reversal), StartKeepsSum, ReversalNegatesSum, AddedKeepsSum;
-- LengthKeepsAnswer (place and sum too).
-- Of a boundary edge's number nothing more is said than polygon's demand 2 says: the lowest of the new list.
use Rattle.std.specs.Prelude.{◌≡◌, Bool, true, false, cond, List, ℕ, ◌≤◌, ℤ, neg_ℤ}
use Rattle.sphere.specs.declared.point.Point.{Point}
use Rattle.sphere.specs.Direction.{is_same_direction}
use Rattle.std.specs.declared.result.Result.TheVariants.{Ok}
use Rattle.answer.specs.Refusal.{Answer}
use Rattle.answer.specs.Answer.{number_of, count_of, sum_of}
use Rattle.polygon.specs.Vertices.{vertices_count, reversed_of}
use Rattle.polygon.specs.Checks.{judge_check}
use Rattle.polygon.specs.Verdict.{answer_of}
use Rattle.redraw.specs.Redraw.{started_at, Lengthened, Addable, added_to, Redrawn, is_turned}

-- Both lists are accepted and the query is judged under each. The lists may be on different grids, and known points and
-- queries need only be equal in direction.
pub record BothJudged (limit limit' : ℕ) (vs ws : List ℤ) (X X' P P' : Point) : Type 0 where
  pub reference : is_same_direction X X' ≡ true
  pub query : is_same_direction P P' ≡ true
  pub first : judge_check limit vs X P ≡ Ok tt
  pub second : judge_check limit' ws X' P' ≡ Ok tt

-- A fact of the two answers, for every such query.
abbrev pub OfBoth : List ℤ → List ℤ → (Answer → Answer → Type 0) → Type 0
OfBoth vs ws Fact = (limit limit' : ℕ) (X X' P P' : Point) → BothJudged limit limit' vs ws X X' P P' →
    Fact (answer_of limit vs X P) (answer_of limit' ws X' P')

-- ---- the verdict, and with it the count
pub record SameJudgement (a b : Answer) : Type 0 where
  pub number : number_of b ≡ number_of a
  pub count : count_of b ≡ count_of a

abbrev pub Unmoved : List ℤ → List ℤ → Type 0
Unmoved vs ws = OfBoth vs ws SameJudgement

abbrev pub RedrawnMattersNot : Type 0
RedrawnMattersNot = (vs ws : List ℤ) → Redrawn vs ws → Unmoved vs ws

abbrev pub StartMattersNot : Type 0
StartMattersNot = (vs : List ℤ) (k : ℕ) → k ≤ vertices_count vs → Unmoved vs (started_at vs k)

abbrev pub ReversalMattersNot : Type 0
ReversalMattersNot = (vs : List ℤ) → Unmoved vs (reversed_of vs)

abbrev pub LengthMattersNot : Type 0
LengthMattersNot = (vs ws : List ℤ) → Lengthened vs ws → Unmoved vs ws

abbrev pub AddedMattersNot : Type 0
AddedMattersNot = (vs : List ℤ) (e : ℕ) (M : Point) → Addable vs e M → Unmoved vs (added_to vs e M)

-- ---- the sum (document 02, P6): as it was or, where the list is turned, negated
abbrev pub signed_by : Bool → ℤ → ℤ
signed_by turned sum = cond turned (neg_ℤ sum) sum

abbrev pub SumBy : Bool → List ℤ → List ℤ → Type 0
SumBy turned vs ws = OfBoth vs ws (λ a b. sum_of b ≡ signed_by turned (sum_of a))

abbrev pub RedrawnSum : Type 0
RedrawnSum = (vs ws : List ℤ) (r : Redrawn vs ws) → SumBy (is_turned r) vs ws

abbrev pub StartKeepsSum : Type 0
StartKeepsSum = (vs : List ℤ) (k : ℕ) → k ≤ vertices_count vs → SumBy false vs (started_at vs k)

abbrev pub ReversalNegatesSum : Type 0
ReversalNegatesSum = (vs : List ℤ) → SumBy true vs (reversed_of vs)

abbrev pub AddedKeepsSum : Type 0
AddedKeepsSum = (vs : List ℤ) (e : ℕ) (M : Point) → Addable vs e M → SumBy false vs (added_to vs e M)

-- ---- lengthened vectors change nothing in the answer
abbrev pub LengthKeepsAnswer : Type 0
LengthKeepsAnswer = (vs ws : List ℤ) → Lengthened vs ws → OfBoth vs ws (λ a b. b ≡ a)

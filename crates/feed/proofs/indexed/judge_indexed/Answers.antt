-- `judge_indexed` meets its contract: a query on the grid that is not antipodal to the known point is judged from it.
use mathlib.Core.Path.{◌≡◌, refl, sym, ◌∙◌, ap}
use mathlib.Core.Bool.{Bool, true, false, ◌||◌, true≢false}
use mathlib.Core.Logic.{⊎_elim}
use Prim.Native.Nat.{ℕ, ◌<◌}
use native.Mathlib.Nat.{eq-zero-or-pos}
use borrow.Author.Tests.{eqb-false}
use lib.Dec.{eqb}
use Rattle.sphere.specs.declared.point.Point.{Point}
use Rattle.sphere.specs.Point.{limit_of, Within, is_off_grid}
use Rattle.sphere.specs.Direction.{is_antipodal}
use Rattle.sphere.proofs.Laws.Grid.{off-grid→within}
use Rattle.std.specs.declared.result.Result.TheVariants.{Ok}
use Rattle.answer.specs.declared.Reason.TheVariants.{QueryAntipodal, QueryOffGrid}
use Rattle.answer.specs.Chain.{fails_if}
use Rattle.polygon.specs.Checks.{accept_check, query_check, far_check, judge_check}
use Rattle.polygon.specs.Verdict.{answer_of}
use Rattle.polygon.proofs.Laws.Checks.{accept_passed}
use Rattle.polygon.proofs.Laws.Pair.{optional_first, judge_near}
use Rattle.judging.specs.Judge.{verdict_on}
use Rattle.judging.proofs.Laws.Judge.{verdict_tally}
use Rattle.feed.proofs.indexed.judge_indexed.Goals as goal
use Rattle.feed.proofs.indexed.judge_indexed.Lts as lts
use Rattle.feed.proofs.indexed.judge_indexed.Reads as reads
use Rattle.feed.proofs.indexed.judge_indexed.Tie as tie

abbrev Start : Type 0
Start = lts.Start tie.the-claims reads.Pre reads.Post tie.handed_clauses

abbrev Else-is_left_out : Type 0
Else-is_left_out = lts.Else1 tie.the-claims reads.Pre reads.Post tie.handed_clauses

-- Lines 17 and 18 pass.
on_grid_lem : (limit : ℕ) (P : Point) → is_off_grid limit P ≡ false → query_check limit P ≡ Ok tt
unfolding query_check
on_grid_lem limit P e = ap (fails_if QueryOffGrid) e

near : (X P : Point) → is_antipodal X P ≡ false → far_check X P ≡ Ok tt
unfolding far_check
near X P e = ap (fails_if QueryAntipodal) e

neither : (a b : Bool) → (a || b) ≡ false → (a ≡ false) × (b ≡ false)
neither true b e = absurd (true≢false e)
neither false b e = (refl, e)

not_zero : (n : ℕ) → eqb n 0 ≡ false → 0 < n
not_zero n e = ⊎_elim (λ z. absurd (eqb-false n 0 e z)) (λ h. h) (eq-zero-or-pos n)

-- The known point is accepted.
accepted : (s : Start) → accept_check (limit_of s.args.grid) s.args.vertices.now s.args.known ≡ Ok tt
accepted s =
    optional_first (limit_of s.args.grid) s.args.vertices.now s.args.known s.args.second s.requires.second_value.0

pub is_left_out-requires : goal.is_left_out-requires
is_left_out-requires c = (accept_passed (accepted c.before.before.before.before.before.before)).known

pub returns-then-is_left_out : goal.returns-then-is_left_out
returns-then-is_left_out c = c.judge_boxed.ensures.0

-- The query is not left out.
module _ (c : Else-is_left_out) where
  abbrev start : Start
  start = c.before.before.before.before.before.before.before

  abbrev off_grid : Bool
  off_grid = is_off_grid (limit_of start.args.grid) start.args.query

  abbrev far : Bool
  far = is_antipodal start.args.known start.args.query

  some : (eqb start.args.index.nodes 0 ≡ false) × ((off_grid || far) ≡ false)
  some = neither (eqb start.args.index.nodes 0) (off_grid || far)
      (sym c.is_left_out.ensures ∙ c.if-is_left_out.false)

  gridded : off_grid ≡ false
  gridded = (neither off_grid far some.1).0

  apart : far ≡ false
  apart = (neither off_grid far some.1).1

  within : Within (limit_of start.args.grid) start.args.query
  within = off-grid→within (limit_of start.args.grid) start.args.query gridded

pub tally_edges-requires : goal.tally_edges-requires
tally_edges-requires c =
    let s = start c.before.before in
    record {
      known_value = (accepted s, within c.before.before, s.requires.second_value.1);
      built = s.requires.index_on.built (not_zero _ (some c.before.before).0);
    }

pub returns : goal.returns
unfolding answer_of judge_check
returns c =
    let a = (start c.before.before.before.before.before.before).args in
    let limit = limit_of a.grid in
    let vs = a.vertices.now in
    rw (
      judge_near a.known a.second a.query (apart c.before.before.before.before.before.before),
      accepted (start c.before.before.before.before.before.before),
      on_grid_lem limit a.query (gridded c.before.before.before.before.before.before),
      near a.known a.query (apart c.before.before.before.before.before.before),
    )
    (c.verdict_on.ensures ∙ ap verdict_on c.tally_edges.ensures ∙ verdict_tally vs a.known a.query)

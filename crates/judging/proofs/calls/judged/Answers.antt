-- `judged` meets its contract: lines 10 and 28, then 10 to 16, and then the query, with no second point.
use Rattle.std.proofs.Common.{rules, ◌≡◌, [], ◌∷◌, sym, ◌∙◌, ap}
use Rattle.std.specs.declared.result.Result.TheVariants.{Ok}
use Rattle.sphere.specs.Point.{limit_of}
use Rattle.polygon.specs.Checks.{accept_check, judge_check}
use Rattle.polygon.specs.Verdict.{answer_of}
use Rattle.polygon.specs.Pair.{judge_from}
use Rattle.polygon.specs.Grids.{is_mixed, grid_check, grid_answer_of}
use Rattle.search.specs.Walk.{looked_in}
use Rattle.judging.specs.Judge.{looked_of, grid_looked_of}
use Rattle.judging.proofs.Laws.Accept.{room_any, after_boxed}
use Rattle.judging.proofs.Laws.Judge.{none_looked}
use Rattle.judging.proofs.Laws.From.{from_none, optional_none}
use Rattle.judging.proofs.calls.judged.Goals as goal

pub returns-in-Err : goal.returns-in-Err
unfolding grid_answer_of grid_looked_of
returns-in-Err c =
    let e = sym (rw c.is_mixed.ensures at c.grid_check.ensures) ∙ c.in-Err.is in
    (rw e c.unjudged.ensures.0, rw e (c.unjudged.ensures.1 ∙ none_looked c.args.mode))

pub accept_boxed-requires : goal.accept_boxed-requires
accept_boxed-requires c = room_any c.args.vertices.now _ (search rules)

pub returns-in-Err-accept_boxed : goal.returns-in-Err-accept_boxed
unfolding grid_answer_of grid_looked_of answer_of looked_of judge_check
returns-in-Err-accept_boxed c =
    let s = c.args in
    let u : grid_check s.vertices.now (is_mixed s.grid (s.known.grid ∷ s.query.grid ∷ [])) ≡ Ok tt = search rules in
    let e = sym c.accept_boxed.ensures.0 ∙ c.in-Err-accept_boxed.is in (
      rw (u, e) c.unjudged-in-Err-accept_boxed.ensures.0,
      rw (u, e) (c.unjudged-in-Err-accept_boxed.ensures.1 ∙ none_looked s.mode),
    )

pub judge_boxed-requires : goal.judge_boxed-requires
judge_boxed-requires c =
    let s = c.args in
    let limit = limit_of s.grid in
    let vs = s.vertices.now in
    let ok : accept_check (limit_of s.grid) s.vertices.now s.known.point ≡ Ok tt = search rules in (
      rw c.no_second-none.ensures (optional_none limit vs s.known.point ok),
      rw (c.accept_boxed.ensures.1, ok)
          (after_boxed limit vs s.known.point _ ok (room_any vs _ (search rules))),
    )

pub returns : goal.returns
unfolding grid_answer_of grid_looked_of
returns c =
    let s = c.args in
    let limit = limit_of s.grid in
    let vs = s.vertices.now in
    let P = s.query.point in
    let u : grid_check s.vertices.now (is_mixed s.grid (s.known.grid ∷ s.query.grid ∷ [])) ≡ Ok tt = search rules in
    let first : judge_from s.known.point c.no_second-none.result P ≡ s.known.point =
    rw c.no_second-none.ensures (from_none s.known.point P) in
    let said = c.judge_boxed.ensures in (
      rw u (said.0 ∙ ap (λ U. answer_of limit vs U P) first),
      rw u (said.1 ∙ ap (λ U. looked_in s.mode (looked_of limit vs U P)) first),
    )

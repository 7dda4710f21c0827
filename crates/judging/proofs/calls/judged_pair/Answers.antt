-- `judged_pair` meets its contract: lines 10 and 28, then 10 to 16 and 19, and then the query.
use Rattle.std.proofs.Common.{rules, ◌≡◌, [], ◌∷◌, sym, ◌∙◌}
use Rattle.std.specs.declared.result.Result.TheVariants.{Ok}
use Rattle.sphere.specs.Point.{limit_of}
use Rattle.polygon.specs.Pair.{pair_check, pair_answer_of}
use Rattle.polygon.specs.Grids.{is_mixed, grid_check, grid_pair_of}
use Rattle.judging.specs.Judge.{grid_looked_pair_of}
use Rattle.polygon.proofs.Laws.Pair.{optional_first, pair→optional}
use Rattle.judging.proofs.Laws.Judge.{none_looked}
use Rattle.judging.proofs.Laws.Accept.{room_any, after_boxed}
use Rattle.judging.proofs.calls.judged_pair.Goals as goal

pub returns-in-Err : goal.returns-in-Err
unfolding grid_pair_of grid_looked_pair_of
returns-in-Err c =
    let e = sym (rw c.is_mixed_of_three.ensures at c.grid_check.ensures) ∙ c.in-Err.is in
    (rw e c.unjudged.ensures.0, rw e (c.unjudged.ensures.1 ∙ none_looked c.args.mode))

pub pair_boxed-requires : goal.pair_boxed-requires
pair_boxed-requires c = room_any c.args.vertices.now _ (search rules)

pub returns-in-Err-pair_boxed : goal.returns-in-Err-pair_boxed
unfolding grid_pair_of grid_looked_pair_of pair_answer_of
returns-in-Err-pair_boxed c =
    let s = c.args in
    let u : grid_check s.vertices.now (is_mixed s.grid (s.known.grid ∷ s.second.grid ∷ s.query.grid ∷ [])) ≡ Ok tt =
    search rules in
    let e = sym c.pair_boxed.ensures.0 ∙ c.in-Err-pair_boxed.is in (
      rw (u, e) c.unjudged-in-Err-pair_boxed.ensures.0,
      rw (u, e) (c.unjudged-in-Err-pair_boxed.ensures.1 ∙ none_looked s.mode),
    )

pub judge_boxed-requires : goal.judge_boxed-requires
judge_boxed-requires c =
    let s = c.args in
    let limit = limit_of s.grid in
    let vs = s.vertices.now in
    let ok : pair_check (limit_of s.grid) s.vertices.now s.known.point s.second.point ≡ Ok tt = search rules in
    let both = pair→optional limit vs s.known.point s.second.point ok in
    let first = optional_first limit vs s.known.point s.second.point both in (
      both,
      rw (c.pair_boxed.ensures.1, first)
          (after_boxed limit vs s.known.point _ first (room_any vs _ (search rules))),
    )

pub returns : goal.returns
unfolding grid_pair_of grid_looked_pair_of pair_answer_of
returns c =
    let s = c.args in
    let u : grid_check s.vertices.now (is_mixed s.grid (s.known.grid ∷ s.second.grid ∷ s.query.grid ∷ [])) ≡ Ok tt =
    search rules in
    let ok : pair_check (limit_of s.grid) s.vertices.now s.known.point s.second.point ≡ Ok tt = search rules in
    let said = c.judge_boxed.ensures in
    (rw (u, ok) said.0, rw (u, ok) said.1)

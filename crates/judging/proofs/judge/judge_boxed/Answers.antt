-- `judge_boxed` meets its contract: on each way the checks that passed decide the definition's chain.
use Rattle.std.proofs.Common.{rules, ◌≡◌, sym, ◌∙◌, ap}
use Rattle.std.specs.declared.result.Result.TheVariants.{Ok}
use Rattle.sphere.specs.Point.{limit_of}
use Rattle.sphere.proofs.Laws.Plane.{grid→fine}
use Rattle.polygon.specs.Vertices.{vertices_count}
use Rattle.polygon.specs.Checks.{query_check, far_check, judge_check}
use Rattle.polygon.specs.Pair.{judge_from}
use Rattle.polygon.specs.Verdict.{answer_of}
use Rattle.polygon.proofs.Laws.Checks.{accept_passed, query_passed}
use Rattle.polygon.proofs.Laws.Pair.{optional_first, judge_accepted}
use Rattle.search.specs.Walk.{tally_from, looked_from, looked_in}
use Rattle.judging.specs.Judge.{verdict_on, looked_of}
use Rattle.judging.proofs.Laws.Judge.{verdict_tally, none_looked}
use Rattle.judging.proofs.judge.judge_boxed.Goals as goal

pub returns-in-Err : goal.returns-in-Err
unfolding answer_of looked_of judge_check
returns-in-Err c =
    let s = c.args in
    let a = judge_accepted (limit_of s.grid) s.vertices.now s.known s.second c.requires.0 s.query in
    let e = sym c.query_check.ensures ∙ c.in-Err.is in
    (rw (a, e) c.unjudged.ensures.0, rw (a, e) (c.unjudged.ensures.1 ∙ none_looked s.mode))

pub judge_from-from-requires : goal.judge_from-from-requires
judge_from-from-requires c =
    let s = c.args in
    let first = optional_first (limit_of s.grid) s.vertices.now s.known s.second c.requires.0 in
    let queried : query_check (limit_of s.grid) s.query ≡ Ok tt = search rules in
    (grid→fine s.grid (accept_passed first).known, grid→fine s.grid (query_passed queried))

pub far_check-requires : goal.far_check-requires
far_check-requires c =
    let s = c.args in
    let a = judge_accepted (limit_of s.grid) s.vertices.now s.known s.second c.requires.0 s.query in
    let queried : query_check (limit_of s.grid) s.query ≡ Ok tt = search rules in
    (rw c.judge_from-from.ensures (grid→fine s.grid (accept_passed a).known), grid→fine s.grid (query_passed queried))

pub returns-in-Err-far_check : goal.returns-in-Err-far_check
unfolding answer_of looked_of judge_check
returns-in-Err-far_check c =
    let s = c.args in
    let a = judge_accepted (limit_of s.grid) s.vertices.now s.known s.second c.requires.0 s.query in
    let queried : query_check (limit_of s.grid) s.query ≡ Ok tt = search rules in
    let e = rw c.judge_from-from.ensures at c.far_check.ensures in
    let far = sym e ∙ c.in-Err-far_check.is in (
      rw (a, queried, far) c.unjudged-in-Err-far_check.ensures.0,
      rw (a, queried, far) (c.unjudged-in-Err-far_check.ensures.1 ∙ none_looked s.mode),
    )

pub search_edges-searched-requires : goal.search_edges-searched-requires
search_edges-searched-requires c =
    let s = c.args in
    let a = judge_accepted (limit_of s.grid) s.vertices.now s.known s.second c.requires.0 s.query in
    let queried : query_check (limit_of s.grid) s.query ≡ Ok tt = search rules in
    (rw c.judge_from-from.ensures a, query_passed queried, c.requires.1)

pub returns : goal.returns
unfolding answer_of looked_of judge_check
returns c =
    let s = c.args in
    let vs = s.vertices.now in
    let from = judge_from s.known s.second s.query in
    let a = judge_accepted (limit_of s.grid) vs s.known s.second c.requires.0 s.query in
    let queried : query_check (limit_of s.grid) s.query ≡ Ok tt = search rules in
    let by = c.judge_from-from.ensures in
    let far_from : far_check c.judge_from-from.result s.query ≡ Ok tt = search rules in
    let far : far_check from s.query ≡ Ok tt = sym (ap (λ p. far_check p s.query) by) ∙ far_from in
    let found = c.search_edges-searched.ensures in
    let tally = found.0 ∙ ap (λ p. tally_from vs p s.query 0 (vertices_count vs)) by in (
      rw (a, queried, far) (c.verdict_on.ensures ∙ ap verdict_on tally ∙ verdict_tally vs from s.query),
      rw (a, queried, far) (found.1 ∙ ap (λ p. looked_in s.mode (looked_from vs p s.query 0 (vertices_count vs))) by),
    )

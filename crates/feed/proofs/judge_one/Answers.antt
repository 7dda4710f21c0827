-- `judge_one` meets its contract: the answer's place has 32 bits, as the polygon is accepted.
use mathlib.Core.Path.{◌≡◌, ap, ◌∙◌}
use native.Mathlib.Omega.{arith}
use Rattle.sphere.specs.Point.{limit_of}
use Rattle.polygon.specs.Verdict.{answer_of}
use Rattle.polygon.specs.Pair.{judge_from}
use Rattle.feed.specs.Feed.{query_at}
use Rattle.feed.proofs.Laws.Small.{answer_small}
use Rattle.polygon.proofs.Laws.Pair.{judge_accepted}
use Rattle.feed.proofs.judge_one.Goals as goal
use Rattle.feed.proofs.judge_one.Lts as lts
use Rattle.feed.proofs.judge_one.Reads as reads
use Rattle.feed.proofs.judge_one.Tie as tie

abbrev After-judge_indexed-answer : Type 0
After-judge_indexed-answer = lts.After-judge_indexed tie.the-claims reads.Pre reads.Post tie.handed_clauses

-- The single call's answer.
answered : (c : After-judge_indexed-answer) →
    let s = c.args in
    let P = query_at s.queries.now s.i in
    c.judge_indexed-answer.result ≡ answer_of (limit_of s.grid) s.vertices.now (judge_from s.known s.second P) P
answered c =
    let s = c.args in
    c.judge_indexed-answer.ensures
    ∙ ap (λ each-P. answer_of (limit_of s.grid) s.vertices.now (judge_from s.known s.second each-P) each-P)
    c.point_at-query.ensures

pub judge_indexed-answer-requires : goal.judge_indexed-answer-requires
judge_indexed-answer-requires c =
    record {
      second_value = c.requires.second_value;
      index_on = c.requires.index_on;
    }

pub store_result-requires : goal.store_result-requires
store_result-requires c =
    let i = c.args in
    let accepted = judge_accepted (limit_of i.grid) i.vertices.now i.known i.second c.requires.second_value.0 _ in (
      omega (arith, c.requires.i_bound, c.requires.queries_in_bounds),
      rw (answered c.before.before.before.before) (answer_small (limit_of i.grid) i.vertices.now _ accepted _).place,
    )

pub returns : goal.returns
returns c = rw (answered c.before.before.before.before.before.before.before) at c.store_result.ensures

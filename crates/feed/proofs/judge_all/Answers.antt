-- `judge_all` meets its contract: before query i the first i results are stored.
use mathlib.Core.Path.{◌≡◌, refl, ◌∙◌}
use Prim.Native.Nat.{◌/◌, ◌<◌}
use native.Mathlib.Omega.{arith}
use borrow.Author.Rules.{rules}
use lib.ListN.{length}
use Rattle.sphere.specs.Point.{limit_of}
use Rattle.feed.specs.Feed.{query_count, result_of, resultsBytes, feed_bytes}
use Rattle.big_endian.proofs.Laws.RowBytes.{rows_more}
use Rattle.feed.proofs.Laws.Results.{result_bytes-length}
use Rattle.feed.proofs.judge_all.Goals as goal
use Rattle.feed.proofs.judge_all.Lts as lts
use Rattle.feed.proofs.judge_all.Reads as reads
use Rattle.feed.proofs.judge_all.Tie as tie

abbrev At-loop-i : Type 0
At-loop-i = lts.At-loop tie.the-claims reads.Pre reads.Post goal.the-invariant-loop-i goal.the-decreases-loop-i tie.handed_clauses

pub loop-i-init : goal.loop-i-init
unfolding resultsBytes
loop-i-init c = (omega arith, refl, refl, refl)

pub judge_one-requires : goal.judge_one-requires
judge_one-requires c =
    record {
      second_value = c.requires.second_value;
      index_on = c.requires.index_on;
      i_bound = omega (arith, c.loop-i-test.true);
      queries_in_bounds = omega (arith, c.loop-i.invariant.1, c.requires.queries_in_bounds);
    }

-- So few queries that their count has a successor.
short : (l : At-loop-i) →
    length l.args.queries.now / 12 < 9223372036854775808
short l = search rules

pub overflow_step-i : goal.overflow_step-i
overflow_step-i c =
    record { fits = omega (arith, c.loop-i-test.true, short c.before.before.before.before.before.before.before.before.before) }

pub loop-i-preserved : goal.loop-i-preserved
loop-i-preserved c =
    let one = c.judge_one in
    let l = c.loop-i in
    let s = c.args in
    let result = result_of (limit_of s.grid) s.vertices.now s.known s.second s.queries.now in
    let more = rows_more 12 result (λ i. result_bytes-length _) s.results.now l.i in (
      omega arith,
      one.auto.results ∙ l.invariant.1,
      rw l.invariant.2 at one.ensures ∙ more,
      one.auto.near ∙ l.invariant.3,
    )

pub shape_of-near : goal.shape_of-near
shape_of-near c = c.loop-i.invariant.3

pub shape_of-results : goal.shape_of-results
shape_of-results c = c.loop-i.invariant.1

pub returns : goal.returns
unfolding feed_bytes
returns c =
    let s = c.args in
    let e : c.loop-i.i ≡ query_count s.queries.now = omega arith in
    rw (← e) c.loop-i.invariant.2

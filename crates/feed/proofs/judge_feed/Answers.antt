-- `judge_feed` meets its contract.
use Rattle.std.proofs.Common.{rules, ◌≡◌, length}
use mathlib.Core.Path.{sym, ap, ◌∙◌}
use lib.Seq.{sets}
use Rattle.std.specs.declared.result.Result.TheVariants.{Ok}
use Rattle.sphere.specs.Point.{limit_of}
use Rattle.polygon.specs.Pair.{no_second}
use Rattle.judging.proofs.Laws.Accept.{room_any, after_boxed}
use Rattle.judging.proofs.Laws.From.{optional_none}
use Rattle.feed.specs.Feed.{feed_check, feed_bytes}
use Rattle.feed.proofs.Laws.ResultBuffer.{buffer_stored}
use Rattle.feed.proofs.Laws.Ends.{feed_passed, feed_done}
use Rattle.feed.proofs.judge_feed.Goals as goal

pub feed_boxed-requires : goal.feed_boxed-requires
feed_boxed-requires c = room_any c.args.vertices.now _ (search rules)

pub judge_each-requires : goal.judge_each-requires
judge_each-requires c =
    let s = c.args in
    let limit = limit_of s.grid in
    let vs = s.vertices.now in
    let passed : feed_check s.grid vs s.known s.queries_grid s.queries.now (length s.results.now) ≡ Ok tt = search rules in
    let facts = feed_passed s.grid vs s.known s.queries_grid s.queries.now _ passed in record {
      second_value = (
        rw c.no_second-none.ensures (optional_none limit vs s.known.point facts.accepted),
        rw (c.feed_boxed.ensures.1, passed)
            (after_boxed limit vs s.known.point _ facts.accepted (room_any vs _ (search rules))),
      );
      queries_in_bounds = facts.enough;
    }

pub returns : goal.returns
returns c =
    let s = c.args in
    let limit = limit_of s.grid in
    let vs = s.vertices.now in
    let Q = s.queries.now in
    let passed : feed_check s.grid vs s.known s.queries_grid Q (length s.results.now) ≡ Ok tt = search rules in
    let facts = feed_passed s.grid vs s.known s.queries_grid Q _ passed in
    let w = feed_done s.grid vs s.known s.queries_grid Q s.results.now passed in
    let each = c.judge_each.ensures
    ∙ ap (λ Y. sets s.results.now 0 (feed_bytes limit vs s.known.point Y Q)) c.no_second-none.ensures in
    let stored = buffer_stored limit vs s.known.point no_second Q s.results.now facts.enough in
    record {
      value = sym w.answered;
      results_after = each ∙ stored ∙ sym w.filled;
    }

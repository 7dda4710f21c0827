-- `book_feed` meets its contract: where the checks pass every result is written, and otherwise nothing.
use mathlib.Core.Path.{◌≡◌, sym, ◌∙◌}
use lib.ListN.{length}
use Rattle.book_feed.specs.Feed.{book_feed_check}
use Rattle.book_feed.proofs.Laws.Ends.{feed_passed, feed_ends, stored_results}
use Rattle.book_feed.proofs.whole.book_feed.Goals as goal
use Rattle.std.proofs.Common.{rules}
use Rattle.std.specs.declared.result.Result.TheVariants.{Ok}

pub fill-requires : goal.fill-requires
fill-requires c =
    let i = c.args in
    let passed : book_feed_check i.book.now i.queries.now (length i.results.now) ≡ Ok tt = search rules in
    feed_passed i.book.now i.queries.now _ passed

pub returns : goal.returns
returns c =
    let i = c.args in
    let passed : book_feed_check i.book.now i.queries.now (length i.results.now) ≡ Ok tt = search rules in
    let w = feed_ends i.book.now i.queries.now i.grid i.results.now passed in record {
      value = sym w.answered;
      results_after = c.fill.ensures
          ∙ stored_results i.book.now i.queries.now i.grid i.results.now (feed_passed i.book.now i.queries.now _ passed).1
          ∙ sym w.filled;
    }

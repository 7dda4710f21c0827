-- `spg_book_feed_number` meets its contract.
use mathlib.Core.Path.{◌∙◌, ap}
use Rattle.answer.specs.Answer.{number_of}
use Rattle.spargolutta_books.proofs.spg_book_feed_number.Goals as goal

pub returns : goal.returns
returns c =
    let f = c.book_feed.ensures in
    record {
      value = c.number.ensures ∙ ap number_of f.value;
      results_after = f.results_after;
    }

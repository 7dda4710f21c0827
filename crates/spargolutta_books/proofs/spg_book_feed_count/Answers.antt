-- `spg_book_feed_count` meets its contract.
use mathlib.Core.Path.{◌∙◌, ap}
use Rattle.answer.specs.Answer.{count_of}
use Rattle.spargolutta_books.proofs.spg_book_feed_count.Goals as goal

pub returns : goal.returns
returns c = c.count.ensures ∙ ap count_of c.feed_answer.ensures

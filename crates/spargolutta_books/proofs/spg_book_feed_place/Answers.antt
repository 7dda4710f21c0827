-- `spg_book_feed_place` meets its contract.
use mathlib.Core.Path.{◌∙◌, ap}
use Rattle.answer.specs.Answer.{place_of}
use Rattle.spargolutta_books.proofs.spg_book_feed_place.Goals as goal

pub returns : goal.returns
returns c = c.place.ensures ∙ ap place_of c.feed_answer.ensures

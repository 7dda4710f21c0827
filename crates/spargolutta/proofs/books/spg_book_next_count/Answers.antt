-- `books::spg_book_next_count` meets its contract.
use mathlib.Core.Path.{◌∙◌, ap}
use Rattle.book.specs.Step.{step_count_of}
use Rattle.spargolutta.proofs.books.spg_book_next_count.Goals as goal

pub returns : goal.returns
returns c = c.count.ensures ∙ ap step_count_of c.step_from.ensures

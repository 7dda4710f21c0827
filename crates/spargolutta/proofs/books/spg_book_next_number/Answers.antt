-- `books::spg_book_next_number` meets its contract.
use mathlib.Core.Path.{◌∙◌, ap}
use Rattle.book.specs.Step.{step_number_of}
use Rattle.spargolutta.proofs.books.spg_book_next_number.Goals as goal

pub returns : goal.returns
returns c = c.number.ensures ∙ ap step_number_of c.step_from.ensures

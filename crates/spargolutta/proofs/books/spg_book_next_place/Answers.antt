-- `books::spg_book_next_place` meets its contract.
use mathlib.Core.Path.{◌∙◌, ap}
use Rattle.book.specs.Step.{step_place_of}
use Rattle.spargolutta.proofs.books.spg_book_next_place.Goals as goal

pub returns : goal.returns
returns c = c.place.ensures ∙ ap step_place_of c.step_from.ensures

-- `books::spg_book_number` meets its contract.
use mathlib.Core.Path.{◌∙◌, ap}
use Rattle.spargolutta.proofs.Handed.{handed_zones}
use Rattle.spargolutta.proofs.books.spg_book_number.Goals as goal

pub returns : goal.returns
returns c =
    let f = c.ranges in
    ap (λ w. w.number)
    (c.which_zones.ensures
    ∙ handed_zones c.args.book.now c.args.grid _ _ _ f.x f.y f.z)

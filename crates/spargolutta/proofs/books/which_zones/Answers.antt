-- `books::which_zones` meets its contract.
use mathlib.Core.Path.{◌∙◌, ap}
use Rattle.book.specs.Which.{which_of}
use Rattle.spargolutta.proofs.Handed.{handed}
use Rattle.spargolutta.proofs.books.which_zones.Goals as goal

pub returns : goal.returns
returns c =
    let f = c.ranges in
    c.which.ensures
    ∙ ap (which_of c.args.book.now c.args.grid)
    (c.query.ensures ∙ handed _ _ _ f.x f.y f.z)

-- `read::opened` meets its contract: there is room for every sheet.
use borrow.Author.Rules.{rules}
use Rattle.judging.proofs.Laws.Accept.{room_any}
use Rattle.sheet.specs.Sheet.{vertices_of}
use Rattle.sheet.proofs.read.opened.Goals as goal

pub open_into-requires : goal.open_into-requires
open_into-requires c = (
  search rules,
  record { enough = λ e. room_any (vertices_of c.args.b.now) _ (search rules) },
)

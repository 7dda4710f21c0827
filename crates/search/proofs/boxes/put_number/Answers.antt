-- `put_number` meets its contract: the number fits 32 bits.
use mir.Syntax.{w32, w64}
use mir.ValLaws.{to_z-of_z}
use Rattle.search.proofs.Laws.Narrow.{narrow}
use Rattle.search.proofs.boxes.put_number.Goals as goal

pub overflow_cast-boxes : goal.overflow_cast-boxes
overflow_cast-boxes c = rw (to_z-of_z w64 c.args.n c.ranges.n) (narrow c.args.n c.requires.1)

pub returns : goal.returns
returns c =
    rw (to_z-of_z w64 c.args.n c.ranges.n, to_z-of_z w32 c.args.n (narrow c.args.n c.requires.1))

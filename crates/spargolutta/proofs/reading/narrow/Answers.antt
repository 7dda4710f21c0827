-- `reading::narrow` meets its contract.
use mir.Syntax.{w32, w64}
use mir.ValLaws.{to_z-of_z}
use Rattle.big_endian.proofs.Laws.Signed.{narrows}
use Rattle.spargolutta.proofs.reading.narrow.Goals as goal

pub overflow_cast-result : goal.overflow_cast-result
overflow_cast-result c = rw (to_z-of_z w64 c.args.k c.ranges.k) (narrows c.args.k c.requires)

pub returns : goal.returns
returns c =
    rw (to_z-of_z w64 c.args.k c.ranges.k) (to_z-of_z w32 c.args.k (narrows c.args.k c.requires))

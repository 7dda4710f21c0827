-- `tally_by` meets its contract.
use mathlib.Core.Path.{ap}
use mir.Syntax.{w32}
use mir.ValLaws.{to_z-of_z}
use Rattle.search.specs.declared.walk.Tally.TheVariants.{Crossed}
use Rattle.search.proofs.walk.tally_by.Goals as goal

pub returns-in-None : goal.returns-in-None
returns-in-None c =
    rw c.in-None.is (ap (Crossed c.args.crossed) (to_z-of_z w32 c.args.sum c.ranges.sum))

pub returns-in-Some : goal.returns-in-Some
returns-in-Some c = rw c.in-Some.is

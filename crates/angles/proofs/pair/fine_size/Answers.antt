-- `pair::fine_size` meets its contract.
use Rattle.angles.proofs.Floats.{fine_fits, fine_is}
use Rattle.angles.proofs.pair.fine_size.Goals as goal

pub float_to_int-result : goal.float_to_int-result
float_to_int-result c = fine_fits c.before.args.a c.before.requires

pub returns : goal.returns
returns c = fine_is c.before.args.a c.before.requires

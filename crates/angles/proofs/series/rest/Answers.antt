-- `series::rest` meets its contract: what is taken from 1 is less than 1.
use Prim.Native.Nat.{◌*◌}
use Rattle.angles.specs.Angle.{one_on}
use Rattle.angles.proofs.Whole.{fits_term, twice_divided, taken_le, less_le}
use Rattle.angles.proofs.series.rest.Goals as goal

pub overflow_sub-result : goal.overflow_sub-result
overflow_sub-result c =
    let i = c.before in
    rw (c.one.ensures, twice_divided (i.args.v * i.args.h) i.args.c 2147483648)
    (taken_le (one_on i.args.grid) i.args.v i.args.h i.args.c i.requires.0 i.requires.1 i.requires.2)

pub returns : goal.returns
returns c =
    let i = c.before in (
      rw (c.one.ensures, twice_divided (i.args.v * i.args.h) i.args.c 2147483648),
      rw c.one.ensures (less_le (one_on i.args.grid) _),
    )

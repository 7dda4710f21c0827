-- `put_one` meets its contract.
use mir.Syntax.{w32}
use Rattle.big_endian.proofs.Laws.Signed.{held}
use Rattle.degrees.specs.Points.{position_in}
use Rattle.degrees.proofs.put_one.Goals as goal

pub returns : goal.returns
unfolding position_in
returns c =
    rw (
      c.put_numbers-2.ensures,
      c.numbers_on-v.ensures,
      held w32 c.int_at-lon.type_inv c.int_at-lon.ensures,
      held w32 c.int_at-lat.type_inv c.int_at-lat.ensures,
    )

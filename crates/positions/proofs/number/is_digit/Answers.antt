-- `number::is_digit` meets its contract.
use Rattle.positions.specs.Number.{is_digit}
use Rattle.positions.proofs.number.is_digit.Goals as goal

pub returns : goal.returns
unfolding is_digit
returns c = c.is_ascii_digit.ensures.value

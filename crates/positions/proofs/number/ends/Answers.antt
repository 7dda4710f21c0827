-- `number::ends` meets its contract.
use borrow.Author.Tests.{eq-eqb, ne_eqb}
use Rattle.positions.specs.Number.{is_end}
use Rattle.positions.proofs.number.ends.Goals as goal

pub returns-then-b-eq93 : goal.returns-then-b-eq93
unfolding is_end
returns-then-b-eq93 c = rw (eq-eqb _ _ c.if-b-eq93.true)

pub returns-else-b-eq93 : goal.returns-else-b-eq93
unfolding is_end
returns-else-b-eq93 c = rw (ne_eqb _ _ c.if-b-eq93.false)

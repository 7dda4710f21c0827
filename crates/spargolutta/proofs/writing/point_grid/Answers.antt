-- `writing::point_grid` meets its contract.
use borrow.Author.Tests.{eq-eqb, ne_eqb}
use Rattle.spargolutta.proofs.writing.point_grid.Goals as goal

pub returns-then-grid-eq1 : goal.returns-then-grid-eq1
returns-then-grid-eq1 c = rw (eq-eqb _ _ c.if-grid-eq1.true)

pub returns : goal.returns
returns c = rw (ne_eqb _ _ c.if-grid-eq1.false)

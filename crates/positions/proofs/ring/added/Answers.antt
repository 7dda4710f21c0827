-- `ring::added` meets its contract.
use borrow.Author.Tests.{eq-eqb, ne_eqb}
use Rattle.positions.specs.Ring.{added_of}
use Rattle.positions.proofs.ring.added.Goals as goal

pub returns-then-count-eq0 : goal.returns-then-count-eq0
unfolding added_of
returns-then-count-eq0 c =
    rw (eq-eqb _ _ c.if-count-eq0.true, c.earliest-outside.ensures, c.is_outside.ensures)

pub returns : goal.returns
unfolding added_of
returns c =
    rw (
      ne_eqb _ _ c.if-count-eq0.false,
      c.earliest-outside.ensures,
      c.is_outside.ensures,
      c.earliest-distant.ensures,
      c.is_distant.ensures,
    )

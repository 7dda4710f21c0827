-- `grammar::ring_next` meets its contract.
use mathlib.Core.Path.{sym}
use borrow.Author.Tests.{eq-eqb, ne_eqb, lt-ltb, le-ltb}
use Rattle.positions.specs.Text.{ring_next}
use Rattle.positions.proofs.grammar.ring_next.Goals as goal

pub returns-then-t-lt29 : goal.returns-then-t-lt29
unfolding ring_next
returns-then-t-lt29 c = rw (sym c.row_at-t.ensures, lt-ltb _ _ c.if-t-lt29.true)

pub returns-then-t-eq29 : goal.returns-then-t-eq29
unfolding ring_next
returns-then-t-eq29 c = rw (
  sym c.row_at-t.ensures,
  le-ltb _ _ c.if-t-lt29.false,
  eq-eqb _ _ c.if-t-eq29.true,
)

pub returns : goal.returns
unfolding ring_next
returns c = rw (
  sym c.row_at-t.ensures,
  le-ltb _ _ c.if-t-lt29.false,
  ne_eqb _ _
      c.if-t-eq29.false,
)

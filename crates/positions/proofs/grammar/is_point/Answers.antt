-- `grammar::is_point` meets its contract.
use mathlib.Core.Path.{sym, ◌∙◌}
use borrow.Author.Tests.{eq-eqb, ne_eqb}
use Rattle.positions.specs.Text.{is_point}
use Rattle.positions.proofs.grammar.is_point.Goals as goal

pub returns-then-s-eq7 : goal.returns-then-s-eq7
unfolding is_point
returns-then-s-eq7 c =
    rw (sym c.is_ring.ensures ∙ c.if-is_ring.true, eq-eqb _ _ c.if-s-eq7.true)

pub returns-then-is_ring : goal.returns-then-is_ring
unfolding is_point
returns-then-is_ring c =
    rw (sym c.is_ring.ensures ∙ c.if-is_ring.true, ne_eqb _ _ c.if-s-eq7.false)

pub returns : goal.returns
unfolding is_point
returns c = rw (sym c.is_ring.ensures ∙ c.if-is_ring.false)

-- `grammar::next` meets its contract.
use mathlib.Core.Path.{sym, ◌∙◌}
use Rattle.positions.specs.Text.{next_of}
use Rattle.positions.proofs.grammar.next.Goals as goal

pub returns-then-is_ring : goal.returns-then-is_ring
unfolding next_of
returns-then-is_ring c =
    c.ring_next.ensures
    ∙ rw (sym c.is_ring.ensures ∙ c.if-is_ring.true, c.class_of.ensures.0)

pub returns : goal.returns
unfolding next_of
returns c =
    c.literal_next.ensures
    ∙ rw (
      sym c.is_ring.ensures ∙ c.if-is_ring.false,
      c.from.ensures,
      c.class_of-2.ensures.0,
    )

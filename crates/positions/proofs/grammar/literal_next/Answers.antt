-- `grammar::literal_next` meets its contract.
use mathlib.Core.Path.{sym}
use native.Mathlib.Nat.{mul-le-mul, le_of_lt}
use native.Mathlib.Omega.{arith}
use borrow.Author.Tests.{eq-eqb, ne_eqb}
use Rattle.positions.specs.Text.{literal}
use Rattle.positions.proofs.grammar.literal_next.Goals as goal

pub returns-then-word_at-b : goal.returns-then-word_at-b
unfolding literal
returns-then-word_at-b c = rw (sym c.word_at.ensures, eq-eqb _ _ c.if-word_at-b.true)

pub returns-then-at-b-eq611 : goal.returns-then-at-b-eq611
unfolding literal
returns-then-at-b-eq611 c = rw (
  sym c.word_at.ensures,
  ne_eqb _ _ c.if-word_at-b.false,
  eq-eqb _ _
      c.if-at-b-eq611.true,
)

pub overflow_mul-gap_at : goal.overflow_mul-gap_at
overflow_mul-gap_at c = let h = mul-le-mul c.gap_at.ensures.1 (le_of_lt c.requires.2) in
    omega arith

pub returns-then-gap_at-c-eq1 : goal.returns-then-gap_at-c-eq1
unfolding literal
returns-then-gap_at-c-eq1 c = rw (
  sym c.word_at.ensures,
  ne_eqb _ _
      c.if-word_at-b.false,
  ne_eqb _ _ c.if-at-b-eq611.false,
  sym
      c.gap_at.ensures.0,
  eq-eqb _ _ c.if-gap_at-c-eq1.true,
)

pub returns : goal.returns
unfolding literal
returns c = rw (
  sym c.word_at.ensures,
  ne_eqb _ _
      c.if-word_at-b.false,
  ne_eqb _ _ c.if-at-b-eq611.false,
  sym
      c.gap_at.ensures.0,
  ne_eqb _ _ c.if-gap_at-c-eq1.false,
)

-- `number::next` meets its contract.
use mathlib.Core.Path.{sym, ◌∙◌}
use borrow.Author.Tests.{eq-eqb, ne_eqb}
use mir.Syntax.{w32}
use mir.ValLaws.{to_z-of_z}
use native.Mathlib.Omega.{arith}
use borrow.Author.Rules.{sfits_of}
use Rattle.positions.specs.Number.{pending_of}
use Rattle.positions.proofs.Numbers.{lon_of, digit_range}
use Rattle.positions.proofs.number.next.Goals as goal

pub overflow_sub-from : goal.overflow_sub-from
overflow_sub-from c =
    rw c.from.ensures (digit_range _ (sym c.is_digit.ensures ∙ c.if-is_digit.true)).0

pub digit-requires : goal.digit-requires
digit-requires c =
    let h = digit_range _ (sym c.is_digit.ensures ∙ c.if-is_digit.true) in let e =
    c.from.ensures in (c.requires, omega arith)

pub returns-then-is_digit : goal.returns-then-is_digit
unfolding pending_of
returns-then-is_digit c =
    c.digit.ensures ∙ rw (
      sym c.is_digit.ensures ∙ c.if-is_digit.true,
      c.from.ensures,
    )

pub returns-then-b-eq45 : goal.returns-then-b-eq45
unfolding pending_of
returns-then-b-eq45 c =
    rw (
      to_z-of_z w32 _ (lon_of c.args.p c.struct_told-1.given),
      sym
          c.is_digit.ensures ∙ c.if-is_digit.false,
      eq-eqb _ _ c.if-b-eq45.true,
    )

pub returns-then-b-eq46 : goal.returns-then-b-eq46
unfolding pending_of
returns-then-b-eq46 c =
    rw (
      to_z-of_z w32 _ (lon_of c.args.p c.struct_told-then-b-eq46-1.given),
      sym
          c.is_digit.ensures ∙ c.if-is_digit.false,
      ne_eqb _ _
          c.if-b-eq45.false,
      eq-eqb _ _ c.if-b-eq46.true,
    )

pub returns-then-b-eq44 : goal.returns-then-b-eq44
unfolding pending_of
returns-then-b-eq44 c =
    rw (
      to_z-of_z w32 _ (sfits_of c.signed.type_inv),
      c.signed.ensures,
      sym
          c.is_digit.ensures ∙ c.if-is_digit.false,
      ne_eqb _ _ c.if-b-eq45.false,
      ne_eqb _ _ c.if-b-eq46.false,
      eq-eqb _ _
          c.if-b-eq44.true,
    )

pub returns : goal.returns
unfolding pending_of
returns c =
    rw (
      sym c.is_digit.ensures ∙ c.if-is_digit.false,
      ne_eqb _ _
          c.if-b-eq45.false,
      ne_eqb _ _ c.if-b-eq46.false,
      ne_eqb _ _ c.if-b-eq44.false,
    )

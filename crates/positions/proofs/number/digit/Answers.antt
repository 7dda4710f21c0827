-- `number::digit` meets its contract.
use borrow.Author.Tests.{eq-eqb, ne_eqb}
use mir.Syntax.{w32}
use mir.ValLaws.{to_z-of_z}
use Prim.Native.Nat.{◌/◌, ◌≤◌}
use native.Mathlib.Nat.{mul-le-mul}
use native.Mathlib.Omega.{arith}
use Rattle.positions.specs.Number.{digit_of}
use Rattle.positions.proofs.Numbers.{lon_of}
use Rattle.positions.proofs.number.digit.Goals as goal

pub returns-then-unit-eq0 : goal.returns-then-unit-eq0
unfolding digit_of
returns-then-unit-eq0 c =
    rw (
      to_z-of_z w32 _ (lon_of c.args.p c.struct_told-1.given),
      c.capped.ensures,
      eq-eqb _ _ c.if-unit-eq0.true,
    )

pub returns : goal.returns
unfolding digit_of
returns c =
    rw (
      to_z-of_z w32 _ (lon_of c.args.p c.struct_told-2-1.given),
      c.capped-2.ensures,
      ne_eqb _ _ c.if-unit-eq0.false,
    )

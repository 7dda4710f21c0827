-- `meanings::index` meets its contract.
use native.Mathlib.Omega.{arith}
use borrow.Author.Tests.{lt-ltb, le-ltb}
use Rattle.spargolutta.proofs.meanings.index.Goals as goal

pub returns-then-number-lt37 : goal.returns-then-number-lt37
returns-then-number-lt37 c =
    let h = c.if-number-lt37.true in
    (rw (lt-ltb c.args.number 37 (omega arith)), omega arith)

pub returns : goal.returns
returns c =
    let h = c.if-number-lt37.false in
    (rw (le-ltb c.args.number 37 (omega arith)), omega arith)

-- `writing::list_size` meets its contract.
use native.Mathlib.Omega.{arith}
use borrow.Author.Tests.{eq-eqb, ne_eqb, lt-leb, le-leb}
use Rattle.spargolutta.proofs.writing.list_size.Goals as goal

pub returns-then-n-ne0 : goal.returns-then-n-ne0
returns-then-n-ne0 c = (rw (ne_eqb _ 0 c.if-n-ne0.true), (omega arith, omega arith))

pub returns-then-n-gt49152 : goal.returns-then-n-gt49152
returns-then-n-gt49152 c =
    let w = c.if-n-ne0.false in
    (rw (eq-eqb _ 0 w, lt-leb _ 49152 c.if-n-gt49152.true), (omega arith, omega arith))

pub returns : goal.returns
returns c =
    let w = c.if-n-ne0.false in
    let h = c.if-n-gt49152.false in
    (rw (eq-eqb _ 0 w, le-leb c.args.n 49152 (omega arith)), (omega arith, omega arith))

-- `lines::put_decimal` meets its contract: the digits of a tenth, and the last one.
use mathlib.Core.Path.{sym, ap, ◌∙◌}
use mathlib.Core.List.{List, [], ◌∷◌}
use Prim.Native.Nat.{ℕ, ◌+◌, ◌/◌, ◌%◌}
use native.Mathlib.Omega.{arith}
use lib.ListN.{length, set}
use lib.Seq.{sets}
use Rattle.big_endian.proofs.Laws.Stores.{stored_on}
use Rattle.zone_judge.specs.Line.{decimal}
use Rattle.zone_judge.proofs.Laws.{decimal_few, decimal_more, digit_more}
use Rattle.zone_judge.proofs.lines.+put_decimal.Goals as goal

pub bounds-out-at : goal.bounds-out-at
bounds-out-at t c =
    let e = ap length (decimal_few c.args.n c.if-n-lt10.true) in
    let p = c.requires in omega arith

pub returns-then-n-lt10-clause-put : goal.returns-then-n-lt10-clause-put
returns-then-n-lt10-clause-put t c =
    ap (λ (d : List ℕ). sets c.args.out.now c.args.at d) (sym (decimal_few c.args.n c.if-n-lt10.true))

pub returns-then-n-lt10-clause-end : goal.returns-then-n-lt10-clause-end
returns-then-n-lt10-clause-end t c =
    let l = ap length (decimal_few c.args.n c.if-n-lt10.true) in omega arith

pub put_decimal-end-requires : goal.put_decimal-end-requires
put_decimal-end-requires t c =
    let l = digit_more c.args.n c.if-n-lt10.false in
    (omega (arith, c.decreases), omega (arith, c.requires))

pub bounds-out-end : goal.bounds-out-end
bounds-out-end t c =
    let d = c.put_decimal-end in
    let l = digit_more c.args.n c.if-n-lt10.false in omega (arith, d.ensures.end, d.auto.out, c.requires)

pub overflow_add-result-2 : goal.overflow_add-result-2
overflow_add-result-2 t c =
    let d = c.put_decimal-end in
    let l = digit_more c.args.n c.if-n-lt10.false in omega (arith, d.ensures.end, c.requires, c.well_formed)

pub returns-clause-put : goal.returns-clause-put
returns-clause-put t c =
    let a = c.args in
    let d = c.put_decimal-end in
    ap (λ (o : List ℕ). set o d.result (48 + a.n % 10)) d.ensures.put
    ∙ stored_on a.out.now a.at d.result (decimal (a.n / 10)) ((48 + a.n % 10) ∷ []) d.ensures.end
    ∙ ap (λ (o : List ℕ). sets a.out.now a.at o) (sym (decimal_more a.n c.if-n-lt10.false))

pub returns-clause-end : goal.returns-clause-end
returns-clause-end t c =
    let l = digit_more c.args.n c.if-n-lt10.false in omega (arith, c.put_decimal-end.ensures.end)

-- `lines::put_number` meets its contract.
use mathlib.Core.Path.{ap, ◌∙◌}
use mathlib.Core.List.{List, [], ◌∷◌}
use Prim.Native.Nat.{ℕ}
use native.Mathlib.Omega.{arith}
use lib.ListN.{set}
use Rattle.big_endian.proofs.Laws.Stores.{stored_on}
use Rattle.zone_judge.specs.Line.{decimal}
use Rattle.zone_judge.proofs.Laws.{digits_most, ended_length}
use Rattle.zone_judge.proofs.lines.put_number.Goals as goal

pub put_decimal-end-requires : goal.put_decimal-end-requires
put_decimal-end-requires c = let m = digits_most c.args.n (omega arith) in omega (arith, c.requires)

pub bounds-out-end : goal.bounds-out-end
bounds-out-end c =
    let d = c.put_decimal-end in
    let m = digits_most c.args.n (omega arith) in omega (arith, d.ensures.end, d.auto.out, c.requires)

pub overflow_add-result : goal.overflow_add-result
overflow_add-result c =
    let m = digits_most c.args.n (omega arith) in omega (arith, c.put_decimal-end.ensures.end, c.requires)

pub returns-clause-put : goal.returns-clause-put
returns-clause-put c =
    let a = c.args in
    let d = c.put_decimal-end in
    ap (λ (o : List ℕ). set o d.result a.after) d.ensures.put
    ∙ stored_on a.out.now a.at d.result (decimal a.n) (a.after ∷ []) d.ensures.end

pub returns-clause-end : goal.returns-clause-end
returns-clause-end c = omega (arith, c.put_decimal-end.ensures.end, ended_length c.args.n c.args.after)

pub returns-clause-most : goal.returns-clause-most
returns-clause-most c =
    let m = digits_most c.args.n (omega arith) in omega (arith, c.put_decimal-end.ensures.end)

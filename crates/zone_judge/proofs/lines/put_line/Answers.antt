-- `lines::put_line` meets its contract.
use mathlib.Core.Path.{ap, ◌∙◌}
use mathlib.Core.List.{List}
use Prim.Native.Nat.{ℕ}
use native.Mathlib.Omega.{arith}
use lib.Seq.{sets}
use Rattle.zone_judge.specs.Line.{ended}
use Rattle.zone_judge.proofs.Laws.{line_put, line_length}
use Rattle.zone_judge.proofs.lines.put_line.Goals as goal

pub returns-clause-put : goal.returns-clause-put
returns-clause-put c =
    let n = c.put_number-place_at in
    let p = c.put_number-count_at in
    let k = c.put_number in
    let x = c.args in
    k.ensures.put
    ∙ ap (λ (o : List ℕ). sets o p.result (ended x.count 10))
    (p.ensures.put ∙ ap (λ (o : List ℕ). sets o n.result (ended x.place 32)) n.ensures.put)
    ∙ line_put x.out.now x.at n.result p.result x.number x.place x.count n.ensures.end p.ensures.end

pub returns-clause-end : goal.returns-clause-end
returns-clause-end c =
    omega (
      arith,
      c.put_number-place_at.ensures.end,
      c.put_number-count_at.ensures.end,
      c.put_number.ensures.end,
      line_length c.args.number c.args.place c.args.count,
    )

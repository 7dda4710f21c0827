-- `is_near` meets its contract, grid by grid.
use borrow.Author.Tests.{eqb-true}
use Rattle.polygon.proofs.Laws.Quick.{near_passed}
use Rattle.polygon.proofs.quick.is_near.Goals as goal

pub returns-in-Coarse : goal.returns-in-Coarse
returns-in-Coarse c =
    let f = c.count_far in
    rw c.before.in-Coarse.is
    (record { passes = λ e. near_passed f.ensures (eqb-true f.result 0 e) })

pub returns-in-Fine : goal.returns-in-Fine
returns-in-Fine c =
    let f = c.count_far-in-Fine in
    rw c.before.in-Fine.is
    (record { passes = λ e. near_passed f.ensures (eqb-true f.result 0 e) })

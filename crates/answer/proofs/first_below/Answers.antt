-- `first_below` meets its contract: each call of the test tells it of one number more.
use mathlib.Core.Path.{sym, ◌∙◌}
use native.Mathlib.Omega.{arith}
use Rattle.answer.proofs.Laws.Search.{searched_start, searched_step, searched_hit, searched_end}
use Rattle.answer.proofs.first_below.Goals as goal

pub loop-i-init : goal.loop-i-init
loop-i-init g c = (omega arith, λ t told. searched_start t _)

pub returns-then-test : goal.returns-then-test
returns-then-test g c = λ t told.
    let l = c.loop-i-test.true in
    sym (searched_hit l (sym (told _ _ l c.test.ensures) ∙ c.if-test.true) (c.loop-i.invariant.1 t told))

pub loop-i-preserved : goal.loop-i-preserved
loop-i-preserved g c = (
  omega (arith, c.loop-i-test.true),
  λ t told.
      let l = c.loop-i-test.true in
      searched_step l (sym (told _ _ l c.test.ensures) ∙ c.if-test.false) (c.loop-i.invariant.1 t told),
)

pub returns : goal.returns
returns g c = λ t told. sym (searched_end c.loop-i-test.false (c.loop-i.invariant.1 t told))

-- `earliest` meets its contract: each call tells of one candidate more.
use mathlib.Core.Path.{sym, ap, ◌∙◌}
use native.Mathlib.Omega.{arith}
use Rattle.std.specs.declared.result.Result.TheVariants.{Err}
use Rattle.sphere.specs.Point.{limit_of}
use Rattle.polygon.specs.Pair.{is_second, chosen}
use Rattle.answer.proofs.Laws.Search.{searched_start, searched_step, searched_hit, searched_end}
use Rattle.judging.proofs.second.earliest.Goals as goal

pub loop-i-init : goal.loop-i-init
loop-i-init g c = (omega arith, λ points told. searched_start _ _)

pub returns-then-is_second : goal.returns-then-is_second
returns-then-is_second g c = λ points told.
    let l = c.loop-i-test.true in
    let same = told _ _ l c.candidate.ensures in
    let test = sym (c.is_second.ensures ∙ ap (is_second (limit_of c.args.grid) c.args.vertices.now c.args.known) same) in
    sym (ap chosen (searched_hit l (test ∙ c.if-is_second.true) (c.loop-i.invariant.1 points told)))

pub loop-i-preserved : goal.loop-i-preserved
loop-i-preserved g c = (
  omega (arith, c.loop-i-test.true),
  λ points told.
      let l = c.loop-i-test.true in
      let same = told _ _ l c.candidate.ensures in
      let test = sym (c.is_second.ensures ∙ ap (is_second (limit_of c.args.grid) c.args.vertices.now c.args.known) same) in
      searched_step l (test ∙ c.if-is_second.false) (c.loop-i.invariant.1 points told),
)

pub returns : goal.returns
returns g c = λ points told.
    ap Err c.at.ensures ∙ sym (ap chosen (searched_end c.loop-i-test.false (c.loop-i.invariant.1 points told)))

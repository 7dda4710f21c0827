-- `add_all` meets its contract.
use mathlib.Core.Path.{refl, ◌∙◌}
use native.Mathlib.Omega.{arith}
use borrow.Author.Rules.{rules}
use Rattle.book_feed.proofs.Laws.Adding.{nothing_added, added_holds, added_step, added_done}
use Rattle.book_feed.proofs.Laws.Verdicts.{same_refl}
use Rattle.book_feed.proofs.adding.add_all.Goals as goal

pub loop-k-init : goal.loop-k-init
loop-k-init c =
    let s = c.args in
    (omega arith, nothing_added s.zone (λ P. s.answer) s.queries.now s.results.now, refl)

pub overflow_mul-k : goal.overflow_mul-k
overflow_mul-k c =
    let room = (c.requires.1.each c.loop-k.k c.loop-k-test.true).room in
    search rules

pub put_zone-requires : goal.put_zone-requires
put_zone-requires c = (
  c.requires.0,
  added_holds c.args.zone (λ P. c.args.answer) c.args.queries.now c.args.results.now c.requires.1
      c.loop-k.k c.loop-k-test.true _ c.loop-k.invariant.1,
)

pub loop-k-preserved : goal.loop-k-preserved
loop-k-preserved c =
    let h = c.loop-k-test.true in
    let room = (c.requires.1.each c.loop-k.k h).room in (
      omega arith,
      added_step c.args.zone (λ P. c.args.answer) c.args.queries.now c.args.results.now c.loop-k.k
          c.args.answer _ _ (omega (arith, room)) c.loop-k.invariant.1
          (same_refl _) c.put_zone.ensures,
      c.put_zone.auto.results ∙ c.loop-k.invariant.2,
    )

pub shape_of-results : goal.shape_of-results
shape_of-results c = c.loop-k.invariant.2

pub returns : goal.returns
returns c =
    let h = c.loop-k-test.false in
    let a = c.args in
    c.loop-k.invariant.1
    ∙ added_done a.zone (λ P. a.answer) a.queries.now a.results.now _
    (omega (arith, h, c.loop-k.invariant.0))

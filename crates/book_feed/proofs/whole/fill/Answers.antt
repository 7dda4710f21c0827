-- `fill` meets its contract: the first i sheets are in every result.
use mathlib.Core.Path.{◌≡◌, refl, sym, ◌∙◌}
use native.Mathlib.Omega.{arith}
use borrow.Author.Rules.{rules}
use Rattle.std.specs.declared.option.Option.TheVariants.{None, Some}
use Rattle.std.specs.declared.result.Result.TheVariants.{Ok}
use Rattle.book.specs.Step.{step_at}
use Rattle.book.proofs.Laws.Steps.{sheet_at, part_five}
use Rattle.book.proofs.Laws.Walked.{walked_end, walked_done}
use Rattle.book_feed.proofs.Laws.Books.{checked_start, checked_sheet, checked_all, checked_never}
use Rattle.book_feed.proofs.Laws.Filled.{filled_start, filled_prepared, filled_sheet, filled_whole}
use Rattle.book_feed.proofs.Laws.Filled.{empty_over, results_over}
use Rattle.book_feed.proofs.whole.fill.Goals as goal

pub clear-requires : goal.clear-requires
clear-requires c = c.requires.1

pub loop-i-init : goal.loop-i-init
loop-i-init c =
    let a = c.args in
    let e = c.clear.ensures in (
      checked_start _,
      filled_start a.book.now a.grid a.queries.now _ _ (omega (arith, c.requires.1, c.clear.auto.results))
          (empty_over a.queries.now a.results.now _ c.requires.1 e),
      refl,
    )

pub add_at-requires : goal.add_at-requires
add_at-requires c =
    let sheet : step_at c.args.book.now c.loop-i.at ≡ Ok (Some (c.in-Ok-Some.field-0-0-0, c.in-Ok-Some.size)) = search rules in
    record {
      size_in_bounds = ((sheet_at _ _ sheet).within, part_five _ _ sheet);
      zone_bound = (c.loop-i-test.true, filled_prepared _ _ _ _ c.loop-i.invariant.1);
    }

pub overflow_add-at : goal.overflow_add-at
overflow_add-at c =
    let sheet : step_at c.args.book.now c.loop-i.at ≡ Ok (Some (c.in-Ok-Some.field-0-0-0, c.in-Ok-Some.size)) = search rules in
    let w = (sheet_at c.args.book.now c.loop-i.at sheet).within in
    search rules

pub shape_of-results-in-Err : goal.shape_of-results-in-Err
shape_of-results-in-Err c = c.loop-i.invariant.2 ∙ c.clear.auto.results

pub returns-in-Err : goal.returns-in-Err
returns-in-Err c =
    absurd (checked_never _ c.loop-i.invariant.0 c.loop-i-test.true
    (sym c.step_at.ensures ∙ c.in-Err.is) c.requires.0)

pub shape_of-results-in-Ok-None : goal.shape_of-results-in-Ok-None
shape_of-results-in-Ok-None c = c.loop-i.invariant.2 ∙ c.clear.auto.results

pub returns-in-Ok-None : goal.returns-in-Ok-None
returns-in-Ok-None c =
    let f = c.loop-i.invariant.1 in
    let end : step_at c.args.book.now c.loop-i.at ≡ Ok None = search rules in
    let i = c.args in
    filled_whole i.book.now i.grid i.queries.now _ f (λ P. walked_end _ _ P (f.walked P) c.loop-i-test.true end)
    ∙ results_over i.book.now i.grid i.queries.now i.results.now _ c.requires.1 c.clear.ensures

pub loop-i-smaller : goal.loop-i-smaller
loop-i-smaller c =
    let h = c.loop-i-test.true in
    omega arith

pub loop-i-preserved : goal.loop-i-preserved
loop-i-preserved c =
    let h = c.loop-i-test.true in
    let sheet : step_at c.args.book.now c.loop-i.at ≡ Ok (Some (c.in-Ok-Some.field-0-0-0, c.in-Ok-Some.size)) = search rules in (
      checked_sheet _ c.loop-i.invariant.0 h sheet,
      filled_sheet _ _ _ _ c.loop-i.invariant.1 h sheet c.add_at.ensures,
      c.add_at.auto.results ∙ c.loop-i.invariant.2,
    )

pub shape_of-results : goal.shape_of-results
shape_of-results c = c.loop-i.invariant.2 ∙ c.clear.auto.results

pub returns : goal.returns
returns c =
    let f = c.loop-i.invariant.1 in
    let i = c.args in
    filled_whole i.book.now i.grid i.queries.now _ f (λ P. walked_done _ _ P (f.walked P) c.loop-i-test.false
    (checked_all _ c.loop-i.invariant.0 c.loop-i-test.false c.requires.0))
    ∙ results_over i.book.now i.grid i.queries.now i.results.now _ c.requires.1 c.clear.ensures

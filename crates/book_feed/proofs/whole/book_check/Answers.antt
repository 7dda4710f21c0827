-- `book_check` meets its contract.
use mathlib.Core.Path.{◌≡◌, sym, ap, ◌∙◌}
use native.Mathlib.Omega.{arith}
use borrow.Author.Rules.{rules}
use Rattle.std.specs.declared.option.Option.TheVariants.{None, Some}
use Rattle.std.specs.declared.result.Result.TheVariants.{Ok, Err}
use Rattle.book.specs.Step.{step_at}
use Rattle.book.proofs.Laws.Steps.{sheet_at}
use Rattle.book_feed.proofs.Laws.Books.{checked_start, checked_sheet, checked_end}
use Rattle.book_feed.proofs.Laws.Books.{checked_left, checked_done}
use Rattle.book_feed.proofs.whole.book_check.Goals as goal

pub loop-i-init : goal.loop-i-init
loop-i-init c = checked_start _

pub overflow_add-at : goal.overflow_add-at
overflow_add-at c =
    let sheet : step_at c.args.book.now c.loop-i.at ≡ Ok (Some (c.in-Some.field-0-0, c.in-Some.size)) = search rules in
    let w = (sheet_at c.args.book.now c.loop-i.at sheet).within in search rules

pub returns-in-None : goal.returns-in-None
returns-in-None c =
    let end : step_at c.args.book.now c.loop-i.at ≡ Ok None = search rules in
    sym (checked_end _ c.loop-i.invariant c.loop-i-test.true end)

pub loop-i-smaller : goal.loop-i-smaller
loop-i-smaller c = let h = c.loop-i-test.true in omega arith

pub loop-i-preserved : goal.loop-i-preserved
loop-i-preserved c =
    let sheet : step_at c.args.book.now c.loop-i.at ≡ Ok (Some (c.in-Some.field-0-0, c.in-Some.size)) = search rules in
    checked_sheet _ c.loop-i.invariant c.loop-i-test.true sheet

pub returns-then-at-book : goal.returns-then-at-book
returns-then-at-book c =
    ap Err c.at.ensures ∙ sym (checked_left _ c.loop-i.invariant c.loop-i-test.false c.if-at-book.true)

pub returns : goal.returns
returns c =
    sym (checked_done _ c.loop-i.invariant c.loop-i-test.false c.if-at-book.false)

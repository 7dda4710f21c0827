-- `which::which` meets its contract. The loop's invariant: the whole answer is that of the sheets from `at` on, above
-- the bits of the first i zones.
use mathlib.Core.Path.{◌≡◌, sym, ap, ◌∙◌}
use native.Mathlib.Omega.{arith}
use borrow.Author.Rules.{rules}
use Rattle.std.specs.declared.option.Option.TheVariants.{None, Some}
use Rattle.std.specs.declared.result.Result.TheVariants.{Ok}
use Rattle.book.specs.Step.{step_at}
use Rattle.book.specs.Sets.{broken_by}
use Rattle.book.proofs.Laws.Steps.{sheet_at, part_five}
use Rattle.book.proofs.Laws.Walked.{walked_start, walked_sheet, walked_refused, walked_end}
use Rattle.book.proofs.Laws.Walked.{walked_left, walked_done}
use Rattle.book.proofs.which.which.Goals as goal

pub loop-i-init : goal.loop-i-init
loop-i-init c = walked_start _ _ _

pub zone_at-requires : goal.zone_at-requires
zone_at-requires c =
    let sheet : step_at c.args.book.now c.loop-i.at ≡ Ok (Some (c.in-Ok-Some.field-0-0-0, c.in-Ok-Some.size)) = search rules in
    ((sheet_at _ _ sheet).within, part_five _ _ sheet)

pub with_zone-zones-requires : goal.with_zone-zones-requires
with_zone-zones-requires c =
    (c.loop-i-test.true, c.loop-i.invariant.below)

pub overflow_add-at : goal.overflow_add-at
overflow_add-at c =
    let sheet : step_at c.args.book.now c.loop-i.at ≡ Ok (Some (c.in-Ok-Some.field-0-0-0, c.in-Ok-Some.size)) = search rules in
    let w = (sheet_at c.args.book.now c.loop-i.at sheet).within in search rules

pub returns-in-Err : goal.returns-in-Err
returns-in-Err c =
    c.broken_by.ensures
    ∙ sym (walked_refused _ _ _ c.loop-i.invariant c.loop-i-test.true
    (sym c.step_at.ensures ∙ c.in-Err.is))

pub returns-in-Ok-None : goal.returns-in-Ok-None
returns-in-Ok-None c =
    let end : step_at c.args.book.now c.loop-i.at ≡ Ok None = search rules in
    c.found.ensures ∙ sym (walked_end _ _ _ c.loop-i.invariant c.loop-i-test.true end)

pub loop-i-smaller : goal.loop-i-smaller
loop-i-smaller c = let h = c.loop-i-test.true in omega arith

pub loop-i-preserved : goal.loop-i-preserved
loop-i-preserved c =
    let sheet : step_at c.args.book.now c.loop-i.at ≡ Ok (Some (c.in-Ok-Some.field-0-0-0, c.in-Ok-Some.size)) = search rules in
    walked_sheet _ _ _ c.loop-i.invariant c.loop-i-test.true sheet c.zone_at.ensures c.with_zone-zones.ensures

pub returns-then-at-book : goal.returns-then-at-book
returns-then-at-book c =
    c.broken_by-then-at-book.ensures ∙ ap broken_by c.at.ensures
    ∙ sym (walked_left _ _ _ c.loop-i.invariant c.loop-i-test.false c.if-at-book.true)

pub returns : goal.returns
returns c =
    c.found-2.ensures
    ∙ sym (walked_done _ _ _ c.loop-i.invariant c.loop-i-test.false c.if-at-book.false)

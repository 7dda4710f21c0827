-- `add_opened` meets its contract: every query gets the single call's answer.
use mathlib.Core.Path.{sym, ◌∙◌}
use Rattle.sphere.specs.Point.{limit_of}
use Rattle.polygon.specs.Verdict.{answer_of}
use Rattle.polygon.specs.Pair.{judge_from}
use Rattle.fields.proofs.Laws.Parts.{passed_value, refused_value}
use Rattle.sheet.specs.Sheet.{sheet_check}
use Rattle.sheet.proofs.Laws.Reads.{sheet_plain}
use Rattle.sheet.proofs.Laws.Opened.{opened_row}
use Rattle.zone.specs.Judge.{sheet_answer_of}
use Rattle.book_feed.specs.Adding.{added_all}
use Rattle.book_feed.proofs.Laws.Sheets.{added_alike, sheet_refused, sheet_judged}
use Rattle.book_feed.proofs.sheets.add_opened.Goals as goal

pub returns-in-Err : goal.returns-in-Err
returns-in-Err c =
    let i = c.args in
    let b = i.part.now in
    let e = refused_value (sheet_check b) _ (sym c.open_into.ensures.value ∙ c.in-Err.is) in
    c.add_all.ensures ∙ added_alike i.zone _ (sheet_answer_of b) i.queries.now i.results.now (sheet_refused b e)

pub returns : goal.returns
returns c =
    let i = c.args in
    let b = i.part.now in
    let v = passed_value (sheet_check b) (sym c.open_into.ensures.value ∙ c.in-Ok.is) in
    let e = v.1 in
    let row = opened_row b i.scratch.now c.open_into.ensures.scratch_after.0 e (sheet_plain b v.0) in
    c.add_polygon.ensures
    ∙ (λ k. added_all i.zone (λ P. answer_of (limit_of (e k).grid) (row k) (judge_from (e k).known (e k).second P) P)
    i.queries.now i.results.now)
    ∙ added_alike i.zone _ (sheet_answer_of b) i.queries.now i.results.now (sheet_judged b v.0)

-- `add_zone` meets its contract.
use mathlib.Core.Path.{◌≡◌, sym, ap, ◌∙◌}
use Rattle.fields.specs.Fields.{grid_of}
use Rattle.book.specs.Which.{grid_number_of, zone_answer}
use Rattle.book.proofs.Laws.Zones.{zone_named, zone_other}
use Rattle.book_feed.proofs.Laws.Sheets.{added_alike}
use Rattle.book_feed.proofs.sheets.add_zone.Goals as goal
use Rattle.std.specs.declared.result.Result.TheVariants.{Err}

pub returns-then-grid-grid_number : goal.returns-then-grid-grid_number
returns-then-grid-grid_number c =
    let i = c.args in
    let named : c.grid_number.result ≡ grid_number_of (grid_of i.part.now) = c.grid_number.ensures ∙ ap grid_number_of c.grid.ensures in
    c.add_all.ensures
    ∙ added_alike i.zone _ (λ P. zone_answer i.grid P i.part.now) i.queries.now i.results.now
    (λ P. ap Err c.at.ensures ∙ sym (zone_other i.grid P i.part.now (λ e. c.if-grid-grid_number.true (e ∙ sym named))))

pub returns : goal.returns
returns c =
    let i = c.args in
    let named : c.grid_number.result ≡ grid_number_of (grid_of i.part.now) = c.grid_number.ensures ∙ ap grid_number_of c.grid.ensures in
    c.add_sheet.ensures
    ∙ added_alike i.zone _ (λ P. zone_answer i.grid P i.part.now) i.queries.now i.results.now
    (λ P. sym (zone_named i.grid P i.part.now (c.if-grid-grid_number.false ∙ named)))

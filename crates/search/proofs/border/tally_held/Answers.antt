-- `tally_held` meets its contract: the first edge that holds the query is the first of its class.
use mathlib.Core.Path.{sym, ◌∙◌}
use Rattle.search.proofs.Laws.Arc.{reference}
use Rattle.search.proofs.Laws.Held.{first_below, first_holds, first_foremost, first_border}
use Rattle.search.proofs.border.tally_held.Goals as goal

pub is_border-requires : goal.is_border-requires
is_border-requires c =
    let vs = c.args.vertices.now in
    let X = c.args.arc.from in
    let P = c.args.arc.to in (
      c.requires.searchable,
      first_below vs X P c.requires.vertices_value,
      first_holds vs X P c.requires.vertices_value,
      first_foremost vs X P c.requires.vertices_value (reference c.requires.searchable.aimed).off_circle,
    )

pub returns-then-is_border : goal.returns-then-is_border
returns-then-is_border c =
    sym (first_border c.args.vertices.now c.args.arc.from c.args.arc.to c.requires.vertices_value
    (sym c.is_border.ensures.0 ∙ c.if-is_border.true))

pub tally_past-requires : goal.tally_past-requires
tally_past-requires c =
    record {
      searchable = (c.requires.searchable, sym c.is_border.ensures.0 ∙ c.if-is_border.false);
      vertices_value = c.requires.vertices_value;
    }

-- `tally_past` meets its contract: the first edge that holds the query and is of another class is the first of that.
use Rattle.std.proofs.Common.{◌&&◌, false, sym, ◌∙◌, ap, arith}
use Rattle.polygon.specs.Vertices.{vertices_count}
use Rattle.polygon.specs.Border.{is_border}
use Rattle.polygon.specs.Verdict.{is_on_border, boundary_of}
use Rattle.search.specs.Walk.{stops_at}
use Rattle.search.proofs.Laws.Arc.{reference}
use Rattle.search.proofs.Laws.Held.{all_edges, first_below, other_foremost, other_none, tally_at, tally_passed}
use Rattle.search.proofs.Laws.Settled.{first_at}
use Rattle.search.proofs.border.tally_past.Goals as goal

pub next_other-requires : goal.next_other-requires
next_other-requires c =
    (c.requires.searchable.0, first_below c.args.vertices.now c.args.arc.from c.args.arc.to c.requires.vertices_value)

pub walk_spans-requires : goal.walk_spans-requires
walk_spans-requires c =
    (c.requires.searchable.0, omega (arith, (reference c.requires.searchable.0.aimed).accepted.listed.least))

-- No edge before the one found, or none at all, is border and holds the query.
pub returns-in_default : goal.returns-in_default
unfolding boundary_of
returns-in_default c =
    let vs = c.args.vertices.now in
    let X = c.args.arc.from in
    let P = c.args.arc.to in
    let h = c.requires in
    let off = (reference h.searchable.0.aimed).off_circle in
    c.walk_spans.ensures ∙ all_edges (stops_at vs P false) vs X P (vertices_count vs)
    ∙ tally_passed vs X P (other_none vs X P h.vertices_value off c.in_default.ensures h.searchable.1)

pub is_border-requires : goal.is_border-requires
is_border-requires c =
    let h = c.requires in
    let o = c.in-Some.ensures in
    let off = (reference h.searchable.0.aimed).off_circle in (
      h.searchable.0,
      o.before,
      o.held,
      other_foremost c.args.vertices.now c.args.arc.from c.args.arc.to h.vertices_value off o.passed o,
    )

pub returns-then-is_border : goal.returns-then-is_border
unfolding boundary_of
returns-then-is_border c =
    let vs = c.args.vertices.now in
    let X = c.args.arc.from in
    let P = c.args.arc.to in
    let h = c.requires in
    let o = c.in-Some.ensures in
    let edge = c.in-Some.other in
    let off = (reference h.searchable.0.aimed).off_circle in
    let none = other_none vs X P h.vertices_value off o.passed h.searchable.1 in
    sym (tally_at vs X P (first_at (is_on_border vs P) edge (vertices_count vs) none o.before
    (ap (λ t. t && is_border vs edge) o.held ∙ sym c.is_border.ensures.0 ∙ c.if-is_border.true)))

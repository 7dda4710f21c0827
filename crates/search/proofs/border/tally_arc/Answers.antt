-- `tally_arc` meets its contract: where no edge holds the query, none is border that does.
use mathlib.Core.Path.{◌≡◌, sym, ◌∙◌}
use mathlib.Core.Bool.{true}
use native.Mathlib.Omega.{arith}
use Rattle.polygon.specs.Vertices.{vertices_count}
use Rattle.search.specs.Walk.{stops_at, tally_on}
use Rattle.search.proofs.Laws.Arc.{reference}
use Rattle.search.proofs.Laws.Held.{all_edges, tally_same, first_held}
use Rattle.search.proofs.border.tally_arc.Goals as goal
use Rattle.search.proofs.border.tally_arc.Lts as lts
use Rattle.search.proofs.border.tally_arc.Reads as reads
use Rattle.search.proofs.border.tally_arc.Tie as tie

abbrev After-walk_spans : Type 0
After-walk_spans = lts.After-walk_spans tie.the-claims reads.Pre reads.Post tie.handed_clauses

pub walk_spans-requires : goal.walk_spans-requires
walk_spans-requires c = (c.requires, omega (arith, (reference c.requires.aimed).accepted.listed.least))

-- What the walk says of all edges.
walked : (c : After-walk_spans) →
    let v = c.args in
    let vs = v.vertices.now in
    tally_on (stops_at vs v.arc.to true) vs v.arc.from v.arc.to 0 (vertices_count vs) ≡ c.walk_spans.result
walked c =
    let v = c.args in
    let vs = v.vertices.now in
    sym (c.walk_spans.ensures
    ∙ all_edges (stops_at vs v.arc.to true) vs v.arc.from v.arc.to (vertices_count vs))

pub tally_held-requires : goal.tally_held-requires
tally_held-requires c =
    let v = c.args in
    record {
      searchable = c.requires;
      vertices_value = first_held v.vertices.now v.arc.from v.arc.to (walked c.before ∙ c.in-Held.is);
    }

pub returns-in_default : goal.returns-in_default
returns-in_default c =
    let v = c.args in
    tally_same v.vertices.now v.arc.from v.arc.to (walked c.before) c.in_default.not-Held

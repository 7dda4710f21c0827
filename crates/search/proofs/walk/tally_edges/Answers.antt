-- `tally_edges` meets its contract: the walk by the arc between both points, and what tally_arc does.
use mathlib.Core.Path.{◌≡◌, sym, ◌∙◌, ap}
use mathlib.Core.Bool.{true}
use native.Mathlib.Omega.{arith}
use Rattle.polygon.specs.Vertices.{vertices_count}
use Rattle.polygon.proofs.Laws.Checks.{accept_passed}
use Rattle.search.specs.Arc.{arc_of, Searchable}
use Rattle.search.specs.Walk.{tally_from, tally_on, stops_at}
use Rattle.search.proofs.Laws.Arc.{arc_searchable, reference}
use Rattle.search.proofs.Laws.Held.{all_edges, tally_same, first_held}
use Rattle.search.proofs.walk.tally_edges.Goals as goal
use Rattle.search.proofs.walk.tally_edges.Goals.{After-arc_between-arc}
use Rattle.search.proofs.walk.tally_edges.Lts as lts
use Rattle.search.proofs.walk.tally_edges.Reads as reads
use Rattle.search.proofs.walk.tally_edges.Tie as tie

abbrev After-walk_spans : Type 0
After-walk_spans = lts.After-walk_spans tie.the-claims reads.Pre reads.Post tie.handed_clauses

pub arc_between-arc-requires : goal.arc_between-arc-requires
arc_between-arc-requires c = ((accept_passed c.requires.0).known, c.requires.1)

searchable : (c : After-arc_between-arc) →
    Searchable c.args.vertices.now c.args.boxes.now c.arc_between-arc.result
searchable c =
    arc_searchable c.args.grid c.args.known c.args.query c.args.by_boxes c.requires.0 c.requires.1
    c.requires.2 c.arc_between-arc.ensures

pub walk_spans-requires : goal.walk_spans-requires
walk_spans-requires c =
    (searchable c, omega (arith, (reference (searchable c).aimed).accepted.listed.least))

-- What the walk says of all edges.
walked : (c : After-walk_spans) →
    let arc = c.arc_between-arc.result in
    let vs = c.args.vertices.now in
    tally_on (stops_at vs arc.to true) vs arc.from arc.to 0 (vertices_count vs) ≡ c.walk_spans.result
walked c =
    let arc = c.arc_between-arc.result in
    let vs = c.args.vertices.now in
    sym (c.walk_spans.ensures ∙ all_edges (stops_at vs arc.to true) vs arc.from arc.to (vertices_count vs))

-- The arc's ends are the two points.
ends : (c : After-arc_between-arc) →
    let arc = c.arc_between-arc.result in
    let v = c.args in
    let vs = v.vertices.now in
    tally_from vs arc.from arc.to 0 (vertices_count vs) ≡ tally_from vs v.known v.query 0 (vertices_count vs)
unfolding arc_of
ends c =
    let vs = c.args.vertices.now in
    ap (λ arc. tally_from vs arc.from arc.to 0 (vertices_count vs)) c.arc_between-arc.ensures

pub tally_held-requires : goal.tally_held-requires
tally_held-requires c =
    let arc = c.arc_between-arc.result in
    let vs = c.args.vertices.now in
    record {
      searchable = searchable c.before.before;
      vertices_value = first_held vs arc.from arc.to (walked c.before ∙ c.in-Held.is);
    }

pub returns-in-Held : goal.returns-in-Held
returns-in-Held c = c.tally_held.ensures ∙ ends c.before.before.before

pub returns-in_default : goal.returns-in_default
returns-in_default c =
    let arc = c.arc_between-arc.result in
    tally_same c.args.vertices.now arc.from arc.to (walked c.before) c.in_default.not-Held ∙ ends c.before.before

-- `tally_marked` meets its contract: where no edge that holds the query is border, a walk passes them all.
use mathlib.Core.Path.{◌≡◌, sym, ap, ◌∙◌}
use mathlib.Core.Bool.{false}
use native.Mathlib.Omega.{arith}
use Rattle.polygon.specs.Vertices.{vertices_count}
use Rattle.polygon.specs.Verdict.{boundary_of}
use Rattle.search.specs.Arc.{arc_of}
use Rattle.search.specs.Walk.{stops_at}
use Rattle.search.proofs.Laws.Arc.{arc_searchable, reference}
use Rattle.search.proofs.Laws.Held.{all_edges, tally_at, tally_passed}
use Rattle.search.proofs.border.tally_marked.Goals as goal
use Rattle.search.proofs.border.tally_marked.Lts as lts
use Rattle.search.proofs.border.tally_marked.Reads as reads
use Rattle.search.proofs.border.tally_marked.Tie as tie

abbrev Start : Type 0
Start = lts.Start tie.the-claims reads.Pre reads.Post

abbrev After-first_border : Type 0
After-first_border = lts.After-first_border tie.the-claims reads.Pre reads.Post

pub arc_between-whole-requires : goal.arc_between-whole-requires
arc_between-whole-requires c = let a = c.requires.aimed.sound in (a.known, a.query)

pub first_border-requires : goal.first_border-requires
first_border-requires c =
    let a = c.requires.aimed in
    arc_searchable c.args.arc.plane.grid _ _ false a.accepted a.sound.query c.requires.boxed
    c.arc_between-whole.ensures

-- What is found on the way over all edges.
module _ (c : After-first_border) where
  abbrev start : Start
  start = c.before.before.before.before.before

  found : c.first_border.result ≡ boundary_of start.args.vertices.now start.args.arc.to
  unfolding arc_of
  found =
      c.first_border.ensures
      ∙ ap (λ a. boundary_of start.args.vertices.now a.to) c.arc_between-whole.ensures

pub walk_spans-requires : goal.walk_spans-requires
walk_spans-requires c =
    let s = start c.before in
    (s.requires, omega (arith, (reference s.requires.aimed).accepted.listed.least))

pub returns-in-None : goal.returns-in-None
returns-in-None c =
    let v = (start c.before.before).args in
    let vs = v.vertices.now in
    c.walk_spans.ensures
    ∙ all_edges (stops_at vs v.arc.to false) vs v.arc.from v.arc.to (vertices_count vs)
    ∙ tally_passed vs v.arc.from v.arc.to (sym (found c.before.before) ∙ c.in-None.is)

pub returns-in-Some : goal.returns-in-Some
returns-in-Some c =
    let v = (start c.before).args in
    sym (tally_at v.vertices.now v.arc.from v.arc.to (sym (found c.before) ∙ c.in-Some.is))

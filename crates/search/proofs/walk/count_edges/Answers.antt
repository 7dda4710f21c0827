-- `count_edges` meets its contract: the walk by the arc between both points; how far the search comes, and of those the
-- edges whose runs are not skipped.
use mathlib.Core.Path.{sym, ◌∙◌, ap, subst}
use mathlib.Core.Bool.{true}
use Prim.Native.Nat.{ℕ, ◌≤◌}
use native.Mathlib.Omega.{arith}
use Rattle.answer.specs.Search.{count_from}
use Rattle.polygon.specs.Vertices.{vertices_count}
use Rattle.polygon.proofs.Laws.Checks.{accept_passed}
use Rattle.search.specs.Arc.{arc_of, Searchable}
use Rattle.search.specs.Walk.{tally_from, looked_from, reach_of, Among, is_looked_by}
use Rattle.search.proofs.Laws.Arc.{arc_searchable}
use Rattle.search.proofs.Laws.Spans.{cornered}
use Rattle.search.proofs.Laws.Looked.{reach_tally, reach_within, tally_among, looked_edges}
use Rattle.search.proofs.walk.count_edges.Goals as goal
use Rattle.search.proofs.walk.count_edges.Goals.{After-arc_between-arc, After-reach_of}
use Rattle.search.proofs.walk.count_edges.Lts as lts
use Rattle.search.proofs.walk.count_edges.Reads as reads
use Rattle.search.proofs.walk.count_edges.Tie as tie

abbrev After-tally_arc-tally : Type 0
After-tally_arc-tally = lts.After-tally_arc tie.the-claims reads.Pre reads.Post

pub arc_between-arc-requires : goal.arc_between-arc-requires
arc_between-arc-requires c = ((accept_passed c.requires.0).known, c.requires.1)

searchable : (c : After-arc_between-arc) →
    Searchable c.args.vertices.now c.args.boxes.now c.arc_between-arc.result
searchable c =
    arc_searchable c.args.grid c.args.known c.args.query true c.requires.0 c.requires.1 c.requires.2
    c.arc_between-arc.ensures

pub tally_arc-tally-requires : goal.tally_arc-tally-requires
tally_arc-tally-requires c = searchable c

module _ (c : After-tally_arc-tally) where
  abbrev n : ℕ
  n = vertices_count c.args.vertices.now

  most : n ≤ 4096
  most = (accept_passed c.requires.0).listed.most

pub reach_of-requires : goal.reach_of-requires
reach_of-requires c =
    let arc = c.arc_between-arc.result in
    (most c.before, subst (λ t. Among t (n c.before)) (sym c.tally_arc-tally.ensures) (tally_among _ arc.from arc.to (n c.before)))

-- The search comes to no more edges than there are.
reached : (c : After-reach_of) → c.reach_of.result ≤ n c.before.before
reached c =
    let arc = c.arc_between-arc.result in
    let vs = c.args.vertices.now in
    let e = c.reach_of.ensures ∙ ap (λ t. reach_of t (n c.before.before)) c.tally_arc-tally.ensures
    ∙ reach_tally vs arc.from arc.to (n c.before.before) in
    omega (arith, e, reach_within vs arc.from arc.to 0 (n c.before.before))

pub looked_before-looked-requires : goal.looked_before-looked-requires
looked_before-looked-requires c =
    let s = searchable c.before.before.before in
    (s.aimed.sound.sound, cornered s _ (reached c), omega (arith, reached c, most c.before.before))

pub returns : goal.returns
unfolding arc_of
returns c =
    let arc = c.arc_between-arc.result in
    let s = searchable c.before.before.before.before in
    let vs = c.args.vertices.now in (
      c.tally_arc-tally.ensures
          ∙ ap (λ arc. tally_from vs arc.from arc.to 0 (vertices_count vs)) c.arc_between-arc.ensures,
      c.looked_before-looked.ensures
          ∙ ap (count_from (is_looked_by c.args.boxes.now arc.plane.normal) 0)
          c.reach_of.ensures
          ∙ looked_edges arc.from arc.to s.boxed s.aimed.sound.through c.tally_arc-tally.ensures
          ∙ ap (λ arc. looked_from vs arc.from arc.to 0 (vertices_count vs)) c.arc_between-arc.ensures,
    )

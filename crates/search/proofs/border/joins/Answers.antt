-- `joins` meets its contract.
use mathlib.Core.Path.{◌∙◌, ap}
use mathlib.Core.Bool.{◌&&◌, ◌||◌}
use Rattle.sphere.specs.Point.{fine, Within}
use Rattle.sphere.specs.Direction.{is_same_direction}
use Rattle.polygon.specs.Border.{joins_of}
use Rattle.polygon.proofs.Laws.Edges.{end_within}
use Rattle.search.proofs.border.joins.Goals as goal
use Rattle.search.proofs.border.joins.Goals.{After-end_of-b}
use Rattle.search.proofs.border.joins.Lts as lts
use Rattle.search.proofs.border.joins.Reads as reads
use Rattle.search.proofs.border.joins.Tie as tie

abbrev Start : Type 0
Start = lts.Start tie.the-claims reads.Pre reads.Post

-- The ends of edge j are within the grid.
module _ (c : After-end_of-b) where
  abbrev s : Start
  s = c.before.before

  A : Within fine c.vertex_at-a.result
  A = rw c.vertex_at-a.ensures (s.requires.0.each s.args.j s.requires.1)

  B : Within fine c.end_of-b.result
  B = end_within s.requires.0 s.requires.1 c.end_of-b.ensures

pub same_direction-requires : goal.same_direction-requires
same_direction-requires c = ((s c).requires.2, A c)

pub same_direction-requires-2 : goal.same_direction-requires-2
same_direction-requires-2 c = ((s c.before).requires.3, B c.before)

pub same_direction-requires-3 : goal.same_direction-requires-3
same_direction-requires-3 c = ((s c.before.before).requires.2, B c.before.before)

pub same_direction-requires-4 : goal.same_direction-requires-4
same_direction-requires-4 c = ((s c.before.before.before).requires.3, A c.before.before.before)

pub returns : goal.returns
unfolding joins_of
returns c =
    let v = (s c.before.before.before.before).args in
    let a = c.vertex_at-a.ensures in
    let b = c.end_of-b.ensures in
    let ca = c.same_direction.ensures ∙ ap (is_same_direction v.c) a in
    let db = c.same_direction-2.ensures ∙ ap (is_same_direction v.d) b in
    let cb = c.same_direction-3.ensures ∙ ap (is_same_direction v.c) b in
    let da = c.same_direction-4.ensures ∙ ap (is_same_direction v.d) a in
    λ i. ((ca i && db i) || (cb i && da i))

-- `test_unsure` meets its contract: the arc between the two points is accepted.
use mathlib.Core.Path.{sym, ◌∙◌, ap, subst}
use mathlib.Core.Bool.{true}
use Rattle.polygon.specs.Vertices.{vertices_count}
use Rattle.polygon.specs.Verdict.{is_on_border, way_of}
use Rattle.polygon.proofs.Laws.Checks.{accept_passed}
use Rattle.search.specs.Arc.{arc_of}
use Rattle.search.specs.Walk.{test_by, NoneBefore}
use Rattle.azimuths.specs.Sectors.{Idle}
use Rattle.cones.specs.Cones.{Complete}
use Rattle.cones.proofs.Laws.Close.{arc_accepted}
use Rattle.cones.proofs.told.test_unsure.Goals as goal

pub arc_between-arc-requires : goal.arc_between-arc-requires
arc_between-arc-requires c = ((accept_passed c.requires.known_value.0).known, c.requires.known_value.1)

pub test_listed-requires : goal.test_listed-requires
unfolding arc_of
test_listed-requires c =
    let a = c.args in
    let vs = a.vertices.now in
    let p = c.requires in
    let e = sym c.arc_between-arc.ensures in record {
      accepted_arc = (
        arc_accepted a.grid a.known a.query true p.known_value.0 p.known_value.1 c.arc_between-arc.ensures,
        p.i_bound.0,
        subst (λ b. NoneBefore vs b.to a.i) e p.i_bound.1,
      );
      complete = subst (λ b. Complete (Idle vs b.from b.to) (vertices_count vs) a.list.now 0 a.to) e p.complete;
    }

pub returns : goal.returns
unfolding arc_of
returns c =
    let a = c.args in
    let vs = a.vertices.now in
    c.test_listed.ensures
    ∙ ap (λ b. test_by (is_on_border vs b.to a.i) (way_of vs b.from b.to a.i))
    c.arc_between-arc.ensures

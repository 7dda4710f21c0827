-- `number_of` meets its contract: the plane's normal is the cross product, whose numbers fit.
use Rattle.integers.proofs.Range.{formula_same}
use Rattle.sphere.specs.Plane.{plane_of}
use Rattle.sphere.proofs.Numbers.{x_of, y_of, z_of}
use Rattle.sphere.proofs.Laws.Grid.{cross_within}
use Rattle.corridors.proofs.border.number_of.Goals as goal

pub returns-in-X : goal.returns-in-X
unfolding plane_of
returns-in-X c =
    rw (c.plane_through-plane.ensures, c.in-X.is) (formula_same (x_of (cross_within c.args.c c.args.p c.requires.0 c.requires.1)) tt)

pub returns-in-Y : goal.returns-in-Y
unfolding plane_of
returns-in-Y c =
    rw (c.plane_through-plane.ensures, c.in-Y.is) (formula_same (y_of (cross_within c.args.c c.args.p c.requires.0 c.requires.1)) tt)

pub returns-in-Z : goal.returns-in-Z
unfolding plane_of
returns-in-Z c =
    rw (c.plane_through-plane.ensures, c.in-Z.is) (formula_same (z_of (cross_within c.args.c c.args.p c.requires.0 c.requires.1)) tt)

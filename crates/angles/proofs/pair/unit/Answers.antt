-- `pair::unit` meets its contract, grid by grid.
use mathlib.Core.Path.{subst}
use Prim.Native.Nat.{ℕ, ◌*◌, ◌^◌, ◌≤◌, ◌<◌}
use native.Mathlib.Nat.{le_trans, le_of_lt}
use lib.Dec.{le→leb, lit≤}
use lib.Ieee.{in_float}
use Rattle.sphere.specs.declared.point.Grid.{Grid}
use Rattle.sphere.specs.declared.point.Grid.TheVariants.{Coarse, Fine}
use Rattle.angles.specs.Angle.{one_on}
use Rattle.angles.proofs.Floats.{coarse_unit, fine_unit}
use Rattle.angles.proofs.pair.unit.Goals as goal

pub returns-in-Coarse : goal.returns-in-Coarse
returns-in-Coarse c =
    let i = c.before.before in
    let e = c.before.in-Coarse.is in
    rw e (coarse_unit i.args.n (subst (λ (g : Grid). i.args.n < one_on g * 2) e i.requires))

pub returns-in-Fine : goal.returns-in-Fine
returns-in-Fine c =
    let i = c.before.before in
    let e = c.before.in-Fine.is in
    rw e (fine_unit i.args.n (subst (λ (g : Grid). i.args.n < one_on g * 2) e i.requires))

-- `plane_through` meets its contract.
use Rattle.sphere.specs.Plane.{plane_of}
use Rattle.sphere.proofs.Laws.Plane.{grid→fine}
use Rattle.sphere.proofs.plane.plane_through.Goals as goal

pub returns : goal.returns
unfolding plane_of
returns c =
    let n = c.before.cross.ensures in
    let f = c.floats_for.ensures in
    λ i. record { normal = n i; floats = f i; grid = c.before.before.args.grid }

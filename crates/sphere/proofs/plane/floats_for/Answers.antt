-- `floats_for` meets its contract, grid by grid.
use Rattle.sphere.proofs.Laws.Approximate.{zero_bits}
use Rattle.sphere.proofs.Laws.Plane.{grid→fine}
use Rattle.sphere.proofs.plane.floats_for.Goals as goal

pub returns-in-Coarse : goal.returns-in-Coarse
returns-in-Coarse c =
    rw c.in-Coarse.is (λ i. record { x = zero_bits i; y = zero_bits i; z = zero_bits i })

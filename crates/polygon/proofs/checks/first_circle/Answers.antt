-- `first_circle` meets its contract: the closure is the test of one edge.
use Rattle.polygon.specs.Lines.{is_on_circle}
use Rattle.polygon.proofs.checks.first_circle.Goals as goal

pub returns : goal.returns
returns c = c.first_below.ensures (is_on_circle c.args.vertices.now c.args.known) (λ i b h told. told)

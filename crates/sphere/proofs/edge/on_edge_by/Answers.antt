-- `on_edge_by` meets its contract.
use mathlib.Core.Path.{◌≡◌, sym}
use lib.IntN.{ℤ, pos}
use mir.Syntax.{w64}
use Rattle.integers.specs.Sign.{sign_of}
use Rattle.integers.proofs.Sign.{eq, allows_is}
use Rattle.integers.proofs.Compare.{zero_no, zero_bits}
use Rattle.sphere.specs.OnEdge.{is_on_edge}
use Rattle.sphere.proofs.edge.on_edge_by.Goals as goal

pub returns-then-side-ne0 : goal.returns-then-side-ne0
unfolding is_on_edge
returns-then-side-ne0 c =
    let s = c.before in rw (← s.requires.side_value, zero_no w64 s.args.side s.ranges.side c.if-side-ne0.true)

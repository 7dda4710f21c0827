-- `shares_beyond` meets its contract: [u m w] = [m w u].
use mathlib.Core.Path.{◌∙◌, ap}
use mir.Syntax.{w64}
use mir.ValLaws.{to_z-of_z}
use Rattle.integers.specs.Sign.{sign_of}
use Rattle.sphere.proofs.Laws.Orientation.{orientation_cycle}
use Rattle.basin.proofs.shared.shares_beyond.Goals as goal

pub on_edge_by-requires-else-on_edge_by-clause-side_value : goal.on_edge_by-requires-else-on_edge_by-clause-side_value
on_edge_by-requires-else-on_edge_by-clause-side_value c =
    ap sign_of (to_z-of_z w64 c.args.side c.ranges.side) ∙ c.requires.3
    ∙ ap sign_of (orientation_cycle c.args.u c.args.m c.args.w)

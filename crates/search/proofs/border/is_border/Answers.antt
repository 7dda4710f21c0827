-- `is_border` meets its contract: no edge before edge i is of its class, so those from its run on are all.
use native.Mathlib.Omega.{arith}
use Prim.Native.Nat.{◌/◌, ◌≤◌}
use Rattle.polygon.specs.Vertices.{vertices_count}
use Rattle.search.specs.Spans.{run_start}
use Rattle.search.proofs.Laws.Settled.{class_border, class_marked}
use Rattle.search.proofs.border.is_border.Goals as goal

pub returns : goal.returns
returns c =
    let e = c.mark_class.ensures in
    let i = c.args.i in
    let below : run_start (vertices_count c.args.vertices.now) (i / 32) ≤ i = omega arith in
    (class_border c.requires.3 below c.requires.1 e.0, class_marked c.requires.3 below e.1)

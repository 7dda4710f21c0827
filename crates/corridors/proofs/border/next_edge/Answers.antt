-- `next_edge` meets its contract: between vertices that are off c no edge ends in its direction.
use Rattle.std.proofs.Common.{◌-◌, arith}
use Rattle.corridors.proofs.Laws.Off.{off_elsewhere}
use Rattle.corridors.proofs.border.next_edge.Goals as goal

pub returns-then-at-i : goal.returns-then-at-i
returns-then-at-i c =
    let t = c.next_toward-at.ensures in
    let m = c.if-at-i.true in (
      off_elsewhere t.0 (c.next_toward-at.result - 1) (omega (arith, m)) (omega (arith, m))
          (omega (arith, t.1, c.requires.3)),
      omega (arith, m, t.1),
    )

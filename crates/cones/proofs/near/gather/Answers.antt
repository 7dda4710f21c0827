-- `gather` meets its contract.
use mathlib.Core.Path.{sym, ◌∙◌, ap}
use native.Mathlib.Omega.{arith}
use Rattle.azimuths.specs.Sectors.{is_missed_at}
use Rattle.cones.proofs.Laws.Near.{gather_start, gather_drop, gather_copy}
use Rattle.cones.proofs.near.gather.Goals as goal
use Rattle.cones.proofs.near.gather.Goals.{then-not-is_missed_at, else-not-is_missed_at}

pub loop-e-init : goal.loop-e-init
loop-e-init c = gather_start c.requires.from_le_to.0

pub loop-e-preserved : goal.loop-e-preserved
loop-e-preserved c =
    let inv = c.loop-e.invariant in
    let h = c.loop-e-test.true in
    elim c.if-not-is_missed_at.branch [
      | then-not-is_missed_at w ↦ rw w.end-is (gather_copy inv h (omega (arith, h, inv.room, inv.few, inv.after)))
      | else-not-is_missed_at w ↦ rw w.end-is (gather_drop inv h
          (ap (is_missed_at c.args.sectors.now c.args.k) (sym c.from.ensures) ∙ sym c.is_missed_at.ensures ∙ w.if-not-is_missed_at.false))
    ]

-- `write::write` meets its contract: input that passed is fit to be stored.
use Rattle.std.proofs.Common.{sym}
use Rattle.sheet.proofs.Laws.Writes.{answered, input_storable}
use Rattle.sheet.proofs.write.write.Goals as goal

pub put_sheet-requires : goal.put_sheet-requires
put_sheet-requires c =
    let h = answered _ _ _ _ _ _ _ (sym c.in_ok-written.ensures) in
    input_storable _ _ _ _ _ _ h.1 _ h.2

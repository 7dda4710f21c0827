-- `put_box` meets its contract.
use mathlib.Core.Path.{ap, ◌∙◌}
use Rattle.std.specs.Option.{unwrap_or}
use Rattle.extent.proofs.Reach.{box_short, box_long, box_kept, box_put}
use Rattle.extent.proofs.boxes.put_box.Goals as goal

pub returns-then-out-lt24-clause-box_after : goal.returns-then-out-lt24-clause-box_after
returns-then-out-lt24-clause-box_after c = box_kept _ _ (box_short c.args.sheet.now _ c.if-out-lt24.true)

pub returns-in-Ok-clause-box_after : goal.returns-in-Ok-clause-box_after
returns-in-Ok-clause-box_after c =
    box_put c.args.sheet.now _ _ c.in-Ok.ensures c.if-out-lt24.false
    (c.unwrap_or.ensures ∙ ap (unwrap_or c.in-Ok.extent.own) c.whole.ensures) c.store.ensures

pub returns-in-Err-clause-box_after : goal.returns-in-Err-clause-box_after
returns-in-Err-clause-box_after c =
    box_kept _ _ (box_long c.args.sheet.now _ c.if-out-lt24.false ∙ c.in-Err.ensures)

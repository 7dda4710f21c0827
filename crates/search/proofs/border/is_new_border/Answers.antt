-- `is_new_border` meets its contract: an edge that is not marked is the first of its class.
use Rattle.std.proofs.Common.{sym, ◌∙◌}
use Rattle.search.proofs.Laws.Arc.{reference}
use Rattle.search.proofs.Laws.Settled.{settled_foremost, settled_class}
use Rattle.search.proofs.border.is_new_border.Goals as goal

pub is_border-requires : goal.is_border-requires
is_border-requires c =
    let h = c.requires in
    let off = (reference h.0.aimed).off_circle in
    (h.0, h.1, h.2, settled_foremost h.3 c.args.arc.from off h.1 h.2 c.if-marks-i-ne1.true)

pub returns-then-marks-i-ne1 : goal.returns-then-marks-i-ne1
returns-then-marks-i-ne1 c =
    let h = c.requires in
    let e = c.is_border.ensures in
    let off = (reference h.0.aimed).off_circle in
    (e.0, λ none. settled_class h.3 c.args.arc.from off h.1 h.2 e.1 (sym e.0 ∙ none))

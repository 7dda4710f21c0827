-- `next_by` meets its contract: an edge that joins the two directions ends in each of them.
use Rattle.std.proofs.Common.{sym, ◌∙◌}
use Rattle.polygon.proofs.Laws.Joined.{joins_front}
use Rattle.corridors.proofs.border.next_by.Goals as goal
use Rattle.corridors.proofs.border.next_by.Goals.{then-turn-eq0, else-turn-eq0}

pub returns : goal.returns
returns c =
    let e = c.next_edge.ensures in
    let s = c.args in
    elim c.if-turn-eq0.branch [
      | then-turn-eq0 w ↦
          let past = rw w.end-is at e.0 in (record { after = past.after; each = past.each s.d }, e.1)
      | else-turn-eq0 w ↦
          let past = rw w.end-is at e.0 in
          (record { after = past.after; each = λ j h l. sym (joins_front s.c s.d _ _) ∙ past.each s.c j h l }, e.1)
    ]

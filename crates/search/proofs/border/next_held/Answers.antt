-- `next_held` meets its contract: it is where a walk that stops at such an edge ends.
use Rattle.std.proofs.Common.{arith, sym, ◌∙◌}
use Rattle.search.proofs.Laws.Held.{next_held, none_held}
use Rattle.search.proofs.border.next_held.Goals as goal

pub returns-in-Held : goal.returns-in-Held
returns-in-Held c =
    let v = c.args in
    next_held v.vertices.now v.arc.from v.arc.to v.from (omega (arith, c.requires.1)) (sym c.walk_spans.ensures ∙ c.in-Held.is)

pub returns-in-Crossed : goal.returns-in-Crossed
returns-in-Crossed c =
    let v = c.args in
    none_held v.vertices.now v.arc.from v.arc.to v.from (omega (arith, c.requires.1))
    (sym c.walk_spans.ensures ∙ c.in-Crossed.is)

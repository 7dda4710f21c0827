-- `past_off` meets its contract: the vertices from i on, before the one at hand, are off c.
use Rattle.std.proofs.Common.{◌≡◌, ◌+◌, sym, ◌∙◌, ap, subst, arith}
use Rattle.answer.proofs.Laws.Chain.{both_true}
use Rattle.corridors.specs.Marked.{is_off, OffBetween}
use Rattle.corridors.proofs.Laws.Off.{off_not_same, off_step}
use Rattle.corridors.proofs.border.past_off.Goals as goal

pub loop-at-preserved : goal.loop-at-preserved
loop-at-preserved c =
    let s = c.args in
    let is = is_off s.axis s.c in
    let off = both_true c.is_off-first.result c.is_off-second.result c.if-not-off.false in
    let first = off_not_same s.axis s.c _ (ap is (sym c.vertex_at.ensures) ∙ sym c.is_off-first.ensures ∙ off.0) in
    let second =
    off_not_same s.axis s.c _ (ap is (sym c.vertex_at-in-loop-at.ensures) ∙ sym c.is_off-second.ensures ∙ off.1) in
    let on : c.loop-at.at + 1 + 1 ≡ c.loop-at.at + 2 = omega arith in (
      subst (OffBetween s.vertices.now s.c s.i) on (off_step (off_step c.loop-at.invariant.0 first) second),
      omega (arith, c.loop-at-test.true),
    )

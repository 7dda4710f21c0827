-- `mark_edges` meets its contract: the edges from j on, before the next that does, do not join the two.
use Rattle.std.proofs.Common.{◌≡◌, ◌+◌, ◌-◌, sym, arith}
use Rattle.answer.specs.Search.{count_from}
use Rattle.answer.proofs.Laws.Blocks.{count_bound}
use Rattle.polygon.specs.Border.{is_coincident}
use Rattle.corridors.proofs.Laws.Off.{joined_more, joined_rest}
use Rattle.corridors.proofs.Laws.Marked.{marked_none, marked_one, marked_append}
use Rattle.corridors.proofs.border.mark_edges.Goals as goal

pub loop-edge-init : goal.loop-edge-init
unfolding count_from
loop-edge-init c =
    let none : c.args.from - c.args.from ≡ 0 = omega arith in
    record {
      after = omega arith;
      before = omega (arith, c.requires.from_lt_to.0);
      counted = rw none;
      marked = marked_none (λ j h l. absurd (omega (arith, h, l)));
    }

pub overflow_add-count : goal.overflow_add-count
overflow_add-count c =
    let s = c.args in
    let inv = c.loop-edge.invariant in
    let e = c.in-Some.ensures in
    let more = joined_more e.passed inv.after inv.counted e.joined in
    omega (
      arith,
      more,
      count_bound (is_coincident s.vertices.now s.c s.d) s.from (c.in-Some.edge + 1 - s.from),
      e.before,
      c.requires.from_lt_to.1,
      c.requires.listed.0.most,
    )

pub loop-edge-preserved : goal.loop-edge-preserved
loop-edge-preserved c =
    let inv = c.loop-edge.invariant in
    let e = c.in-Some.ensures in
    record {
      after = omega (arith, inv.after, e.passed.after);
      before = omega (arith, e.before);
      counted = joined_more e.passed inv.after inv.counted e.joined;
      marked = marked_append (omega (arith, inv.after, e.passed.after)) (omega arith)
          (marked_append inv.after e.passed.after inv.marked (marked_none e.passed.each))
          (marked_one e.joined c.put_mark.ensures);
    }

pub returns : goal.returns
returns c =
    let inv = c.loop-edge.invariant in
    let e = c.in_default.ensures in (
      sym (joined_rest e inv.after inv.counted),
      marked_append inv.after e.after inv.marked (marked_none e.each),
    )

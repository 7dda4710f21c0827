-- `next_run` meets its contract: no run from r on, before the one at hand, is sought.
use Rattle.std.proofs.Common.{◌≡◌, sym, arith, max}
use Rattle.search.specs.Spans.{is_run}
use Rattle.search.proofs.Laws.Scanned.{scan_start, scan_step, scan_hit, scan_end}
use Rattle.search.proofs.spans.next_run.Goals as goal

pub loop-i-init : goal.loop-i-init
loop-i-init c = scan_start

pub returns-then-is_apart-skipped : goal.returns-then-is_apart-skipped
unfolding is_run
returns-then-is_apart-skipped c =
    scan_hit c.loop-i.invariant c.loop-i-test.true (rw (← c.is_apart.ensures) c.if-is_apart-skipped.true)

pub loop-i-preserved : goal.loop-i-preserved
unfolding is_run
loop-i-preserved c =
    scan_step c.loop-i.invariant c.loop-i-test.true (rw (← c.is_apart.ensures) c.if-is_apart-skipped.false)

pub returns : goal.returns
returns c =
    let l = c.loop-i in
    let last : l.i ≡ max c.args.r c.args.runs =
    omega (arith, l.auto.i, l.auto.i-end, c.loop-i-test.false, l.invariant.before, l.invariant.after) in
    rw (c.max.ensures, sym last) (scan_end l.invariant c.loop-i-test.false)

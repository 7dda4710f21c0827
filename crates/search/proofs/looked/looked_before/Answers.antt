-- `looked_before` meets its contract: what was counted before run r, and run r, are counted before run r + 1.
use Prim.Native.Nat.{◌+◌}
use native.Mathlib.Omega.{arith}
use Rattle.search.specs.Spans.{run_start}
use Rattle.search.specs.Walk.{is_looked_by}
use Rattle.search.proofs.Laws.Counted.{Counted, counted_few, runs_start, runs_step, runs_end}
use Rattle.search.proofs.looked.looked_before.Goals as goal
use Rattle.search.proofs.looked.looked_before.Goals.{After-looked_in-count}

pub run_count-runs-requires : goal.run_count-runs-requires
run_count-runs-requires c = c.requires.2

pub loop-r-init : goal.loop-r-init
loop-r-init c = (omega arith, runs_start _ _)

pub looked_in-count-requires : goal.looked_in-count-requires
looked_in-count-requires c =
    record {
      sound = (c.requires.0, c.requires.1);
      reach_bound = (c.requires.2, omega (arith, c.loop-r-test.true, c.run_count-runs.ensures));
    }

next : (c : After-looked_in-count) →
    let s = c.args in
    Counted (is_looked_by s.boxes.now s.plane.normal) 0 (run_start s.reach (c.loop-r.r + 1))
    (c.loop-r.count + c.looked_in-count.result)
next c =
    runs_step _ _ (omega (arith, c.loop-r-test.true, c.run_count-runs.ensures)) c.loop-r.invariant.1
    c.looked_in-count.ensures

pub overflow_add-count : goal.overflow_add-count
overflow_add-count c = omega (arith, counted_few _ (next c), c.requires.2)

pub loop-r-preserved : goal.loop-r-preserved
loop-r-preserved c = (omega (arith, c.loop-r-test.true), next c)

pub returns : goal.returns
returns c =
    runs_end _ _ (omega (arith, c.loop-r-test.false, c.run_count-runs.ensures)) c.loop-r.invariant.1

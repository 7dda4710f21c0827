-- `next_span` meets its contract: two scans, past the runs that are skipped and past those that are not.
use mathlib.Core.Bool.{true, false}
use Prim.Native.Nat.{ℕ, ◌+◌, ◌≤◌}
use native.Mathlib.Omega.{arith}
use Rattle.sphere.specs.Point.{limit_of}
use Rattle.polygon.specs.Vertices.{vertices_count}
use Rattle.search.specs.Boxes.{run_count}
use Rattle.search.specs.Spans.{Cornered, is_run}
use Rattle.search.proofs.Laws.Arc.{reference}
use Rattle.search.proofs.Laws.Runs.{runs_few}
use Rattle.search.proofs.Laws.Scanned.{Stopped, stopped_by}
use Rattle.search.proofs.Laws.Spans.{cornered, spanned, whole_spanned}
use Rattle.search.proofs.spans.next_span.Goals as goal
use Rattle.search.proofs.spans.next_span.Goals.{Start, After-next_run-end}
use Rattle.search.proofs.spans.next_span.Lts as lts
use Rattle.search.proofs.spans.next_span.Reads as reads
use Rattle.search.proofs.spans.next_span.Tie as tie

abbrev After-run_count-runs : Type 0
After-run_count-runs = lts.After-run_count tie.the-claims reads.Pre reads.Post

abbrev After-next_run-first : Type 0
After-next_run-first = lts.After-next_run tie.the-claims reads.Pre reads.Post

module _ (s : Start) where
  abbrev n : ℕ
  n = vertices_count s.args.vertices.now

  most : n ≤ 4096
  most = (reference s.requires.0.aimed).accepted.listed.most

  few : run_count n ≤ 128
  few = runs_few n most

pub run_count-runs-requires : goal.run_count-runs-requires
run_count-runs-requires c = most c

-- The boxes of all runs are there.
boxes-there : (c : After-run_count-runs) →
    Cornered (limit_of c.args.arc.plane.grid) c.args.boxes.now c.run_count-runs.result
boxes-there c = rw c.run_count-runs.ensures (cornered c.requires.0 (n c.before) (omega arith))

pub next_run-first-requires : goal.next_run-first-requires
next_run-first-requires c = (c.requires.0.aimed.sound.sound, boxes-there c.before.before)

-- Past the runs that are skipped.
module _ (c : After-next_run-first) where
  abbrev s : Start
  s = c.before.before.before.before

  first_at : Stopped (is_run s.args.boxes.now s.args.arc.plane.normal false) s.args.r (run_count (n s))
      c.next_run-first.result
  first_at = stopped_by _ s.args.r c.run_count-runs.ensures c.next_run-first.ensures

  first_few : c.next_run-first.result ≤ 129
  first_few = omega (arith, first_at.before, first_at.after, few s, s.requires.1)

pub overflow_add-first : goal.overflow_add-first
overflow_add-first c = omega (arith, first_few c.before)

pub next_run-end-requires : goal.next_run-end-requires
next_run-end-requires c = ((s c.before).requires.0.aimed.sound.sound, boxes-there c.before.before.before.before)

-- Past those that are not.
module _ (c : After-next_run-end) where
  abbrev f : After-next_run-first
  f = c.before.before

  end_at : Stopped (is_run (s f).args.boxes.now (s f).args.arc.plane.normal true) (f.next_run-first.result + 1)
      (run_count (n (s f))) c.next_run-end.result
  end_at = stopped_by _ (f.next_run-first.result + 1) f.run_count-runs.ensures c.next_run-end.ensures

  end_few : c.next_run-end.result ≤ 130
  end_few = omega (arith, end_at.before, end_at.after, few (s f), first_few f)

pub run_start-requires : goal.run_start-requires
run_start-requires c = omega (arith, first_few c.before.before)

pub run_start-requires-then-arc : goal.run_start-requires-then-arc
run_start-requires-then-arc c = end_few c.before

pub returns-then-arc : goal.returns-then-arc
returns-then-arc c =
    rw (c.run_start.ensures, c.run_start-then-arc.ensures) (spanned (s (f c.before.before)).requires.0 (first_at (f c.before.before)) (end_at c.before.before))

pub run_start-requires-2 : goal.run_start-requires-2
run_start-requires-2 c = omega (arith, c.requires.1)

-- All edges.
pub returns : goal.returns
returns c =
    let v = c.args in
    rw (c.run_start-2.ensures, c.run_count-runs.ensures)
    (whole_spanned v.vertices.now v.arc.from v.arc.to v.r)

pub overflow_add-result : goal.overflow_add-result
overflow_add-result c = omega (arith, end_few c.before.before)

pub overflow_add-result-2 : goal.overflow_add-result-2
overflow_add-result-2 c = omega (arith, c.run_count-runs.ensures, few c.before.before.before)

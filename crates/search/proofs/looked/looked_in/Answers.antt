-- `looked_in` meets its contract: the edges of a run are in one box.
use mathlib.Core.Path.{◌≡◌, sym, ◌∙◌, ap}
use mathlib.Core.Bool.{Bool, not}
use Prim.Native.Nat.{ℕ, ◌+◌, ◌*◌, ◌-◌, ◌/◌, ◌≤◌, ◌<◌}
use native.Mathlib.Omega.{arith}
use Rattle.answer.proofs.Laws.Blocks.{count_all, count_none}
use Rattle.search.specs.Boxes.{run_end}
use Rattle.search.specs.Walk.{is_looked_by}
use Rattle.search.proofs.Laws.Runs.{Run, run_known, run_few}
use Rattle.search.proofs.looked.looked_in.Goals as goal
use Rattle.search.proofs.looked.looked_in.Goals.{Start}
use Rattle.search.proofs.looked.looked_in.Lts as lts
use Rattle.search.proofs.looked.looked_in.Reads as reads
use Rattle.search.proofs.looked.looked_in.Tie as tie

abbrev After-is_apart : Type 0
After-is_apart = lts.After-is_apart tie.the-claims reads.Pre reads.Post tie.handed_clauses

module _ (s : Start) where
  few : s.args.r < 128
  few = run_few s.args.reach s.args.r s.requires.reach_bound.0 s.requires.reach_bound.1

  run : Run s.args.reach s.args.r (run_end s.args.reach s.args.r)
  run = run_known s.args.reach s.args.r s.requires.reach_bound.1

pub is_apart-requires : goal.is_apart-requires
is_apart-requires c =
    let box = c.requires.sound.1 in
    record {
      sound = (c.requires.sound.0, omega (arith, c.requires.reach_bound.1, box.room));
      within = box.each c.args.r c.requires.reach_bound.1;
    }

-- What the test of the box says of each edge of the run.
in_run : (r j : ℕ) → r * 32 ≤ j → j < r * 32 + 32 → j / 32 ≡ r
in_run r j h l = omega arith

looked : (c : After-is_apart) {t : Bool} → c.is_apart.result ≡ t →
    let s = c.args in
    (j : ℕ) → s.r * 32 ≤ j → j < s.r * 32 + (run_end s.reach s.r - s.r * 32) →
    is_looked_by s.boxes.now s.plane.normal j ≡ not t
unfolding is_looked_by
looked c e j h l =
    let same = in_run c.args.r j h (omega (arith, l, h, (run c.before).size)) in
    rw same (ap not (sym c.is_apart.ensures ∙ e))

pub returns-then-is_apart : goal.returns-then-is_apart
returns-then-is_apart c = sym (count_none _ _ _ (looked c.before c.if-is_apart.true))

pub run_end-requires : goal.run_end-requires
run_end-requires c = few c.before.before

pub overflow_mul-result : goal.overflow_mul-result
overflow_mul-result c = omega (arith, few c.before.before.before)

pub overflow_sub-result : goal.overflow_sub-result
overflow_sub-result c = omega (arith, c.run_end.ensures, (run c.before.before.before).some)

pub overflow_cast-result : goal.overflow_cast-result
overflow_cast-result c =
    omega (arith, c.run_end.ensures, (run c.before.before.before).within, c.requires.reach_bound.0)

pub returns : goal.returns
returns c =
    ap (λ to. to - c.args.r * 32) c.run_end.ensures
    ∙ sym (count_all _ _ _ (looked c.before.before c.if-is_apart.false))

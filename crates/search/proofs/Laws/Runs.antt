-- Runs of 32 edges. Defined: Ends, Run, Between. Proved, in order: run_ends, run_within, run_known, run_few, run_of,
-- run_holds, runs_few, runs_below; start_of, start_last, start_runs, run_next (where a run begins), between (the edges
-- from there to where another one does).
use mathlib.Core.Path.{◌≡◌, refl}
use mathlib.Core.Bool.{Bool, true, false, cond}
use Prim.Native.Nat.{ℕ, ◌+◌, ◌*◌, ◌/◌, ◌≤◌, ◌<◌}
use native.Mathlib.Omega.{arith}
use borrow.Author.Tests.{ltb-true, ltb-false}
use lib.Dec.{ltb}
use Rattle.search.specs.Boxes.{run_count, run_end}
use Rattle.search.specs.Spans.{run_start}

-- The end of a run: after 32 edges, or the last edge's.
pub data Ends (n r : ℕ) : ℕ → Type 0 where
  full : r * 32 + 32 ≤ n → Ends n r (r * 32 + 32)
  last : n ≤ r * 32 + 32 → Ends n r n

pub run_ends : (n r : ℕ) → Ends n r (run_end n r)
unfolding run_end
run_ends n r = go (ltb (r * 32 + 32) n) refl
  where
    go : (t : Bool) → ltb (r * 32 + 32) n ≡ t → Ends n r (cond t (r * 32 + 32) n)
    go true e = full (omega (arith, ltb-true (r * 32 + 32) n e))
    go false e = last (ltb-false (r * 32 + 32) n e)

pub run_within : (n r : ℕ) → run_end n r ≤ n
run_within n r = go (run_end n r) (run_ends n r)
  where
    go : (to : ℕ) → Ends n r to → to ≤ n
    go to (full e) = e
    go to (last e) = omega arith

-- What is known of the end of run r, of run_count n.
pub record Run (n r to : ℕ) : Type 0 where
  pub some : r * 32 < to
  pub size : to ≤ r * 32 + 32
  pub within : to ≤ n
  pub next : (r + 1 < run_count n → to ≡ (r + 1) * 32) × (run_count n ≤ r + 1 → to ≡ n)

pub run_known : (n r : ℕ) → r < run_count n → Run n r (run_end n r)
unfolding run_count
run_known n r h = go (run_end n r) (run_ends n r)
  where
    go : (to : ℕ) → Ends n r to → Run n r to
    go to (full e) = record {
      some = omega arith;
      size = omega arith;
      within = e;
      next = (λ k. omega arith, λ k. omega arith);
    }
    go to (last e) = record {
      some = omega arith;
      size = e;
      within = omega arith;
      next = (λ k. omega arith, λ k. omega arith);
    }

pub run_few : (n r : ℕ) → n ≤ 4096 → r < run_count n → r < 128
unfolding run_count
run_few n r h k = omega arith

pub run_of : (n j : ℕ) → j < n → j / 32 < run_count n
unfolding run_count
run_of n j h = omega arith

pub run_holds : (n j : ℕ) → j < n → j < run_end n (j / 32)
run_holds n j h = go (run_end n (j / 32)) (run_ends n (j / 32))
  where
    go : (to : ℕ) → Ends n (j / 32) to → j < to
    go to (full e) = omega arith
    go to (last e) = omega (arith, h)

pub runs_few : (n : ℕ) → n ≤ 4096 → run_count n ≤ 128
unfolding run_count
runs_few n h = omega arith

pub runs_below : (k n : ℕ) → k ≤ n → run_count k ≤ run_count n
unfolding run_count
runs_below k n h = omega arith

-- ---- where run r begins
pub start_of : (n r : ℕ) → r < run_count n → run_start n r ≡ r * 32
unfolding run_count
start_of n r h = omega arith

pub start_last : (n r : ℕ) → run_count n ≤ r → run_start n r ≡ n
unfolding run_count
start_last n r h = omega arith

pub start_runs : (n r : ℕ) → run_start n r < n → r < run_count n
unfolding run_count
start_runs n r h = omega arith

-- A run ends where the next one begins.
pub run_next : (n r : ℕ) → run_end n r ≡ run_start n (r + 1)
run_next n r = go (run_end n r) (run_ends n r)
  where
    go : (to : ℕ) → Ends n r to → to ≡ run_start n (r + 1)
    go to (full e) = omega arith
    go to (last e) = omega arith

-- An edge from where run a begins on, before run b does: its run is one of those between.
pub record Between (n a b j : ℕ) : Type 0 where
  pub from : a ≤ j / 32
  pub before : j / 32 < b
  pub some : j / 32 < run_count n
  pub after : (j / 32) * 32 ≤ j
  pub ends : j < run_end n (j / 32)

pub between : (n a b j : ℕ) → run_start n a ≤ j → j < run_start n b → Between n a b j
unfolding run_count
between n a b j h l = record {
  from = omega arith;
  before = omega arith;
  some = omega arith;
  after = omega arith;
  ends = run_holds n j (omega arith);
}

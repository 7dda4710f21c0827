-- What a loop has counted before i, from `from` on. Defined: Counted. Proved, in order: counted_start, counted_block (k
-- numbers more), counted_past, counted_few; runs_start, runs_step, runs_end (as a loop over runs goes).
use mathlib.Core.Path.{◌≡◌, sym, ◌∙◌, ap, subst}
use mathlib.Core.Bool.{Bool, false}
use Prim.Native.Nat.{ℕ, ◌+◌, ◌*◌, ◌-◌, ◌≤◌, ◌<◌}
use native.Mathlib.Omega.{arith}
use Rattle.answer.specs.Search.{count_from}
use Rattle.answer.proofs.Laws.Blocks.{count_append, count_bound, count_none}
use Rattle.search.specs.Boxes.{run_count, run_end}
use Rattle.search.specs.Spans.{run_start}
use Rattle.search.proofs.Laws.Runs.{run_known, run_next, start_of, start_last}

pub record Counted (test : ℕ → Bool) (from i count : ℕ) : Type 0 where
  pub before : count_from test from (i - from) ≡ count

module _ (test : ℕ → Bool) where
  pub counted_start : (from : ℕ) → Counted test from from 0
  unfolding count_from
  counted_start from = let none : from - from ≡ 0 = omega arith in record { before = rw none }

  module _ {from i count : ℕ} (h : from ≤ i) (c : Counted test from i count) where
    pub counted_block : (k : ℕ) {more : ℕ} → more ≡ count_from test i k → Counted test from (i + k) (count + more)
    counted_block k e =
        let on : (i + k) - from ≡ (i - from) + k = omega arith in
        let here : from + (i - from) ≡ i = omega arith in
        record {
          before = rw (on, e) (count_append test from (i - from) k ∙ rw (here, c.before));
        }

    -- numbers at which the test fails
    pub counted_past : (to : ℕ) → i ≤ to → ((j : ℕ) → i ≤ j → j < to → test j ≡ false) → Counted test from to count
    counted_past to l none =
        let there : i + (to - i) ≡ to = omega arith in
        let plain : count + 0 ≡ count = omega arith in
        subst (λ i. Counted test from i count) there (subst (λ c. Counted test from (i + (to - i)) c) plain
        (counted_block (to - i) (sym (count_none test i (to - i) (λ j k m. none j k (omega (arith, m, l)))))))

  pub counted_few : {from i count : ℕ} → Counted test from i count → count ≤ i - from
  counted_few {from} {i} c = rw (← c.before) (count_bound test from (i - from))

-- ---- as a loop over the runs of n edges goes: what was counted before run r
module _ (test : ℕ → Bool) (n : ℕ) where
  pub runs_start : Counted test 0 (run_start n 0) 0
  runs_start =
      let first : 0 ≡ run_start n 0 = omega arith in subst (λ i. Counted test 0 i 0) first (counted_start test 0)

  pub runs_step : {r count k : ℕ} → r < run_count n → Counted test 0 (run_start n r) count →
      k ≡ count_from test (r * 32) (run_end n r - r * 32) → Counted test 0 (run_start n (r + 1)) (count + k)
  runs_step {r} {count} {k} h c e =
      let start : run_start n r ≡ r * 32 = start_of n r h in
      let end : run_start n r + (run_end n r - r * 32) ≡ run_start n (r + 1) =
      omega (arith, start, run_next n r, (run_known n r h).some) in
      subst (λ i. Counted test 0 i (count + k)) end
      (counted_block test (omega arith) c (run_end n r - r * 32)
      (e ∙ ap (λ i. count_from test i (run_end n r - r * 32)) (sym start)))

  pub runs_end : {r count : ℕ} → run_count n ≤ r → Counted test 0 (run_start n r) count → count ≡ count_from test 0 n
  runs_end {r} {count} h c =
      let all : n - 0 ≡ n = omega arith in
      sym (subst (λ k. count_from test 0 k ≡ count) all
      (subst (λ i. Counted test 0 i count) (start_last n r h) c).before)

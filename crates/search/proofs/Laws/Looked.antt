-- The edges looked at (document 02, P2). Proved, in order: reach_within, looked_bound (no more than there are);
-- reach_tally, tally_among (by what the search said); looked_same (by the boxes), looked_edges.
use mathlib.Core.Path.{◌≡◌, refl, ◌∙◌, ap}
use mathlib.Core.Bool.{Bool}
use mathlib.Core.List.{List}
use Prim.Native.Nat.{ℕ, zero, suc, ◌+◌, ◌/◌, ◌≤◌, ◌<◌}
use native.Mathlib.Nat.{le_trans}
use native.Mathlib.Omega.{arith}
use lib.IntN.{ℤ}
use Rattle.sphere.specs.declared.point.Point.{Point}
use Rattle.sphere.specs.Orientation.{cross_of}
use Rattle.std.specs.declared.option.Option.{Option}
use Rattle.std.specs.declared.option.Option.TheVariants.{None, Some}
use Rattle.answer.specs.Search.{first_from, count_from}
use Rattle.polygon.specs.Vertices.{vertices_count}
use Rattle.polygon.specs.Verdict.{is_on_border}
use Rattle.answer.proofs.Laws.First.{Each, each_first, each_rest, first_found}
use Rattle.answer.proofs.Laws.Blocks.{count_bound}
use Rattle.search.specs.declared.walk.Tally.{Tally}
use Rattle.search.specs.Boxes.{Boxed, is_skipped}
use Rattle.search.specs.Walk.{tally_by, tally_from, is_looked, reach, looked_from, reach_of, Among, is_looked_by}
use Rattle.search.proofs.Laws.Runs.{run_of}

-- ---- by the definition
reach_bound : (found : Option ℕ) (i k : ℕ) → ((edge : ℕ) → found ≡ Some edge → edge < i + k) → reach found i k ≤ k
reach_bound None i k h = omega arith
reach_bound (Some edge) i k h = omega (arith, h edge refl)

module _ (vs : List ℤ) (X P : Point) where
  pub reach_within : (i k : ℕ) → reach (first_from (is_on_border vs P) i k) i k ≤ k
  reach_within i k =
      reach_bound (first_from (is_on_border vs P) i k) i k (λ edge e. (first_found (is_on_border vs P) i k edge e).below)

  pub looked_bound : (i k : ℕ) → looked_from vs X P i k ≤ k
  unfolding looked_from
  looked_bound i k = le_trans (count_bound (is_looked vs X P) i _) (reach_within i k)

  -- ---- by what the search over n edges said
  pub reach_tally : (n : ℕ) → reach_of (tally_from vs X P 0 n) n ≡ reach (first_from (is_on_border vs P) 0 n) 0 n
  unfolding tally_from
  reach_tally n = go (first_from (is_on_border vs P) 0 n) _ _
    where
      go : (found : Option ℕ) (c : ℕ) (s : ℤ) → reach_of (tally_by found c s) n ≡ reach found 0 n
      go None c s = refl
      go (Some edge) c s = omega arith

  pub tally_among : (n : ℕ) → Among (tally_from vs X P 0 n) n
  unfolding tally_from
  tally_among n = go (first_from (is_on_border vs P) 0 n) _ _ refl
    where
      go : (found : Option ℕ) (c : ℕ) (s : ℤ) → first_from (is_on_border vs P) 0 n ≡ found → Among (tally_by found c s) n
      go None c s e = tt
      go (Some edge) c s e = omega (arith, (first_found (is_on_border vs P) 0 n edge e).below)

-- ---- by the boxes
count_same : (f g : ℕ → Bool) (i k : ℕ) → Each (λ j. f j ≡ g j) i k → count_from f i k ≡ count_from g i k
unfolding count_from
count_same f g i zero all = refl
count_same f g i (suc k) all =
    rw (each_first (λ j. f j ≡ g j) i k all, count_same f g (suc i) k (each_rest (λ j. f j ≡ g j) i k all))

module _ {vs boxes : List ℤ} (X P : Point) {N : Point} (b : Boxed vs boxes) (e : N ≡ cross_of X P) where
  pub looked_same : (k : ℕ) → k ≤ vertices_count vs →
      count_from (is_looked_by boxes N) 0 k ≡ count_from (is_looked vs X P) 0 k
  unfolding is_looked is_looked_by is_skipped
  looked_same k h =
      count_same (is_looked_by boxes N) (is_looked vs X P) 0 k
      (λ j l m. rw (b.each (j / 32) (run_of (vertices_count vs) j (omega (arith, m, h))), e))

  pub looked_edges : {tally : Tally} → tally ≡ tally_from vs X P 0 (vertices_count vs) →
      count_from (is_looked_by boxes N) 0 (reach_of tally (vertices_count vs)) ≡ looked_from vs X P 0 (vertices_count vs)
  unfolding looked_from
  looked_edges t =
      let n = vertices_count vs in
      ap (λ t. count_from (is_looked_by boxes N) 0 (reach_of t n)) t
      ∙ ap (λ k. count_from (is_looked_by boxes N) 0 k) (reach_tally vs X P n)
      ∙ looked_same _ (reach_within vs X P 0 n)

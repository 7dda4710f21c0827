-- Edges whose ends are strictly on one side of the plane through X and P matter not to the arc from X to P. Proved, in
-- order: one_sided_not_crossed, one_sided_not_held, one_sided_tally (k of them), tallied_past (what was tallied before
-- them is tallied after them).
use mathlib.Core.Path.{◌≡◌}
use mathlib.Core.Bool.{Bool, true, false}
use mathlib.Core.List.{List}
use Prim.Native.Nat.{ℕ, ◌+◌, ◌-◌, ◌≤◌, ◌<◌}
use native.Mathlib.Omega.{arith}
use lib.IntN.{ℤ, pos}
use Rattle.integers.specs.Sign.{nought}
use Rattle.sphere.specs.declared.point.Point.{Point}
use Rattle.sphere.specs.Crossing.{crossing_of}
use Rattle.sphere.proofs.Laws.Beside.{beside_not_crossed, beside_not_on}
use Rattle.polygon.specs.Vertices.{vertices_count, start_of, end_of}
use Rattle.polygon.specs.Verdict.{is_held_by, is_crossed, way_of}
use Rattle.answer.proofs.Laws.First.{Each, none_first}
use Rattle.answer.proofs.Laws.Blocks.{count_none, sum_none}
use Rattle.polygon.proofs.Laws.Checks.{OffCircles}
use Rattle.search.specs.declared.walk.Tally.TheVariants.{Crossed}
use Rattle.search.specs.Scan.{is_one_sided}
use Rattle.search.specs.Walk.{tally_on, stops_at}
use Rattle.search.proofs.Laws.Tally.{TalliedOn, on_none}

module _ (vs : List ℤ) (X P : Point) where
  pub one_sided_not_crossed : (j : ℕ) → is_one_sided vs X P j ≡ true → crossing_of X P (start_of vs j) (end_of vs j) ≡ nought
  one_sided_not_crossed j e = beside_not_crossed X P (start_of vs j) (end_of vs j) e

  module _ (off : OffCircles vs X) where
    pub one_sided_not_held : (j : ℕ) → j < vertices_count vs → is_one_sided vs X P j ≡ true → is_held_by vs P j ≡ false
    one_sided_not_held j h e = beside_not_on X P (start_of vs j) (end_of vs j) (off j h) e

    pub one_sided_tally : (stop : Bool) (i k : ℕ) → i + k ≤ vertices_count vs →
        Each (λ j. is_one_sided vs X P j ≡ true) i k → tally_on (stops_at vs P stop) vs X P i k ≡ Crossed 0 (pos 0)
    one_sided_tally stop i k h all =
        rw (
          none_first (stops_at vs P stop) i k (λ j l m. rw (one_sided_not_held j (omega (arith, m)) (all j l m))),
          count_none (is_crossed vs X P) i k (λ j l m. rw (one_sided_not_crossed j (all j l m))),
          sum_none (way_of vs X P) i k (λ j l m. rw (one_sided_not_crossed j (all j l m))),
        )

    pub tallied_past : (stop : Bool) {from i crossed : ℕ} {sum : ℤ} (to : ℕ) → from ≤ i → i ≤ to → to ≤ vertices_count vs →
        ((j : ℕ) → i ≤ j → j < to → is_one_sided vs X P j ≡ true) →
        TalliedOn (stops_at vs P stop) vs X P from i crossed sum →
        TalliedOn (stops_at vs P stop) vs X P from to crossed sum
    tallied_past stop {i = i} to h l m all t =
        let there : i + (to - i) ≡ to = omega arith in
        on_none (to - i) h t to there
        (one_sided_tally stop i (to - i) (omega arith) (λ j k o. all j k (omega (arith, o))))

-- What a walk has tallied before edge i, up to the first edge at which a test holds. Defined: Parts, TalliedOn.
-- Proved, in order: crossed_parts, held_found (what a tally says of its parts); tallied_start, on_block (k edges more),
-- on_none, on_held, on_end; one_held, one_way (one edge); tallied_few, tallied_small; sum_fits, sum_held (a sum, as the
-- loop's local holds it). Where the test is of border: Tallied, tallied_block, tallied_none, tallied_held, tallied_end,
-- tally_all, test_held, test_way; none_start, none_before.
use mathlib.Core.Path.{◌≡◌, refl, sym, ap, ◌∙◌, subst}
use mathlib.Core.Bool.{Bool, true, false, not, cond}
use mathlib.Core.List.{List}
use Prim.Native.Nat.{ℕ, ◌+◌, ◌-◌, ◌^◌, ◌≤◌, ◌<◌}
use native.Mathlib.Omega.{arith}
use lib.IntN.{ℤ, pos, nat_abs, ◌+ℤ◌, +ℤ_idr}
use mir.Syntax.{w32}
use mir.Val.{SFits, hbits, to_z, of_z}
use mir.ValLaws.{to_z-of_z}
use Rattle.integers.proofs.Size.{Is, fits, kept}
use Rattle.integers.specs.Sign.{Sign, negative, nought, positive, sign_of, is_zero, unit_of}
use Rattle.sphere.specs.declared.point.Point.{Point}
use Rattle.sphere.specs.Crossing.{crossing_of}
use Rattle.std.specs.declared.option.Option.{Option}
use Rattle.std.specs.declared.option.Option.TheVariants.{None, Some}
use Rattle.answer.specs.Search.{first_from, count_from, sum_from}
use Rattle.polygon.specs.Vertices.{start_of, end_of}
use Rattle.polygon.specs.Verdict.{is_on_border, is_crossed, way_of}
use Rattle.answer.proofs.Laws.Blocks.{first_pass, first_keep, count_append, sum-append, count_bound, sum_bound}
use Rattle.search.specs.declared.walk.EdgeTest.TheVariants.{OnBorder, Way}
use Rattle.search.specs.declared.walk.Tally.{Tally}
use Rattle.search.specs.declared.walk.Tally.TheVariants.{Held, Crossed}
use Rattle.search.specs.Walk.{test_by, tally_by, tally_on, tally_from, NoneBefore}

-- ---- a tally's parts
pub record Parts (found : Option ℕ) (c : ℕ) (s : ℤ) (crossed : ℕ) (sum : ℤ) : Type 0 where
  pub none : found ≡ None
  pub count : c ≡ crossed
  pub total : s ≡ sum

one_is_not_none : {A : Type 0} → ◌≡◌ {A = ℕ} 0 1 → A
one_is_not_none z = absurd (omega arith)

pub crossed_parts : (found : Option ℕ) (c : ℕ) (s : ℤ) {crossed : ℕ} {sum : ℤ} →
    tally_by found c s ≡ Crossed crossed sum → Parts found c s crossed sum
crossed_parts None c s e = record { none = refl; count = cc; total = cc }
crossed_parts (Some edge) c s e = one_is_not_none cc

pub held_found : (found : Option ℕ) (c : ℕ) (s : ℤ) {edge : ℕ} → tally_by found c s ≡ Held edge → found ≡ Some edge
held_found None c s e = one_is_not_none cc
held_found (Some place) c s {edge} e = let same : place ≡ edge = cc in ap Some same

-- ---- from `from` on, before edge i
pub record TalliedOn (test : ℕ → Bool) (vs : List ℤ) (X P : Point) (from i crossed : ℕ) (sum : ℤ) : Type 0 where
  pub none : first_from test from (i - from) ≡ None
  pub count : count_from (is_crossed vs X P) from (i - from) ≡ crossed
  pub total : sum_from (way_of vs X P) from (i - from) ≡ sum

start : (from : ℕ) → from - from ≡ 0
start from = omega arith

so_far : (from i k : ℕ) → from ≤ i → (i + k) - from ≡ (i - from) + k
so_far from i k h = omega arith

here : (from i : ℕ) → from ≤ i → from + (i - from) ≡ i
here from i h = omega arith

rest : (from i k to : ℕ) → from ≤ i → i + k ≤ to → to - from ≡ (i - from) + (k + (to - (i + k)))
rest from i k to h l = omega arith

module _ {test : ℕ → Bool} {vs : List ℤ} {X P : Point} where
  pub tallied_start : (from : ℕ) → TalliedOn test vs X P from from 0 (pos 0)
  unfolding first_from count_from sum_from
  tallied_start from = record { none = rw (start from); count = rw (start from); total = rw (start from) }

  module _ {from i crossed : ℕ} {sum : ℤ} (k : ℕ) (h : from ≤ i) (t : TalliedOn test vs X P from i crossed sum) where
    pub on_block : {c : ℕ} {s : ℤ} → tally_on test vs X P i k ≡ Crossed c s →
        TalliedOn test vs X P from (i + k) (crossed + c) (sum +ℤ s)
    on_block {c} {s} e =
        let parts = crossed_parts _ (count_from (is_crossed vs X P) i k) (sum_from (way_of vs X P) i k) e in
        record {
          none = rw (so_far from i k h) (first_pass test from (i - from) k t.none
              ∙ rw (here from i h) parts.none);
          count = rw (so_far from i k h) (count_append (is_crossed vs X P) from (i - from) k
              ∙ rw (here from i h, t.count, parts.count));
          total = rw (so_far from i k h) (sum-append (way_of vs X P) from (i - from) k
              ∙ rw (here from i h, t.total, parts.total));
        }

    -- edges that say nothing
    pub on_none : (to : ℕ) → i + k ≡ to → tally_on test vs X P i k ≡ Crossed 0 (pos 0) →
        TalliedOn test vs X P from to crossed sum
    on_none to there e =
        let plain : crossed + 0 ≡ crossed = omega arith in
        subst (λ i. TalliedOn test vs X P from i crossed sum) there
        (subst (λ s. TalliedOn test vs X P from (i + k) crossed s) (+ℤ_idr sum)
        (subst (λ c. TalliedOn test vs X P from (i + k) c (sum +ℤ pos 0)) plain (on_block e)))

    pub on_held : (to : ℕ) {edge : ℕ} → i + k ≤ to → tally_on test vs X P i k ≡ Held edge →
        tally_on test vs X P from (to - from) ≡ Held edge
    on_held to {edge} l e =
        let found = held_found (first_from test i k) _ _ e in
        let all : first_from test from (to - from) ≡ Some edge =
        rw (rest from i k to h l) (first_pass test from (i - from) (k + (to - (i + k))) t.none
        ∙ rw (here from i h) (first_keep test i k (to - (i + k)) edge found)) in
        rw all

  pub on_end : {from to crossed : ℕ} {sum : ℤ} → TalliedOn test vs X P from to crossed sum →
      tally_on test vs X P from (to - from) ≡ Crossed crossed sum
  on_end t = rw (t.none, t.count, t.total)

-- ---- one edge
way_count : (s : Sign) {r : ℤ} {k : ℕ} → k ≡ cond (is_zero (sign_of r)) 0 1 → r ≡ unit_of s →
    cond (not (is_zero s)) 1 0 ≡ k
way_count negative e r = sym (e ∙ rw r)
way_count nought e r = sym (e ∙ rw r)
way_count positive e r = sym (e ∙ rw r)

module _ (test : ℕ → Bool) (vs : List ℤ) (X P : Point) (i : ℕ) where
  pub one_held : test_by (test i) (way_of vs X P i) ≡ OnBorder → tally_on test vs X P i 1 ≡ Held i
  unfolding first_from
  one_held e = go (test i) e
    where
      go : (t : Bool) → test_by t (way_of vs X P i) ≡ OnBorder →
          tally_by (cond t (Some i) None) (count_from (is_crossed vs X P) i 1) (sum_from (way_of vs X P) i 1) ≡ Held i
      go true e = refl
      go false e = one_is_not_none cc

  -- the count is what `counted` says of the way
  pub one_way : {way : ℤ} {c : ℕ} → test_by (test i) (way_of vs X P i) ≡ Way way →
      c ≡ cond (is_zero (sign_of way)) 0 1 → tally_on test vs X P i 1 ≡ Crossed c way
  unfolding first_from count_from sum_from
  one_way {way} {c} e k = go (test i) e
    where
      crossing : Sign
      crossing = crossing_of X P (start_of vs i) (end_of vs i)

      go : (t : Bool) → test_by t (way_of vs X P i) ≡ Way way →
          tally_by (cond t (Some i) None) (cond (is_crossed vs X P i) 1 0) (way_of vs X P i +ℤ pos 0) ≡ Crossed c way
      go true e = one_is_not_none cc
      go false e =
          let same : way_of vs X P i ≡ way = cc in
          rw (+ℤ_idr (way_of vs X P i), way_count crossing k (sym same), same)

-- ---- sizes
unit_size : (s : Sign) → nat_abs (unit_of s) ≤ 1
unit_size negative = omega arith
unit_size nought = omega arith
unit_size positive = omega arith

module _ {test : ℕ → Bool} {vs : List ℤ} {X P : Point} where
  pub tallied_few : {from i crossed : ℕ} {sum : ℤ} → TalliedOn test vs X P from i crossed sum → crossed ≤ i - from
  tallied_few {from} {i} t = rw (← t.count) (count_bound (is_crossed vs X P) from (i - from))

  pub tallied_small : {from i crossed : ℕ} {sum : ℤ} → TalliedOn test vs X P from i crossed sum → nat_abs sum ≤ i - from
  tallied_small {from} {i} t =
      rw (← t.total) (sum_bound (way_of vs X P)
      (λ j. unit_size (crossing_of X P (start_of vs j) (end_of vs j))) from (i - from))

-- ---- a sum, as the loop's local holds it
room : 4096 < 2 ^ hbits w32
room = omega arith

module _ {test : ℕ → Bool} {vs : List ℤ} {X P : Point} {from i crossed : ℕ} (sum : ℕ) (way : ℤ) (fit : SFits w32 way)
    (few : i ≤ 4096) (t : TalliedOn test vs X P from i crossed (to_z w32 sum +ℤ way)) where
  held_sum : Is (to_z w32 sum +ℤ to_z w32 (of_z w32 way)) (to_z w32 sum +ℤ way) 4096
  held_sum = record {
    same = ap (λ k. to_z w32 sum +ℤ k) (to_z-of_z w32 way fit);
    size = omega (arith, tallied_small t, few);
  }

  pub sum_fits : SFits w32 (to_z w32 sum +ℤ to_z w32 (of_z w32 way))
  sum_fits = fits held_sum room

  pub sum_held : TalliedOn test vs X P from i crossed (to_z w32 (of_z w32 (to_z w32 sum +ℤ to_z w32 (of_z w32 way))))
  sum_held = rw (kept w32 room held_sum).same t

-- ---- up to the first border edge that holds P
abbrev pub Tallied : List ℤ → Point → Point → ℕ → ℕ → ℕ → ℤ → Type 0
Tallied vs X P from i crossed sum = TalliedOn (is_on_border vs P) vs X P from i crossed sum

module _ {vs : List ℤ} {X P : Point} where
  module _ {from i crossed : ℕ} {sum : ℤ} (k : ℕ) (h : from ≤ i) (t : Tallied vs X P from i crossed sum) where
    pub tallied_block : {c : ℕ} {s : ℤ} → tally_from vs X P i k ≡ Crossed c s →
        Tallied vs X P from (i + k) (crossed + c) (sum +ℤ s)
    unfolding tally_from
    tallied_block e = on_block k h t e

    pub tallied_none : (to : ℕ) → i + k ≡ to → tally_from vs X P i k ≡ Crossed 0 (pos 0) →
        Tallied vs X P from to crossed sum
    unfolding tally_from
    tallied_none to there e = on_none k h t to there e

    pub tallied_held : (to : ℕ) {edge : ℕ} → i + k ≤ to → tally_from vs X P i k ≡ Held edge →
        tally_from vs X P from (to - from) ≡ Held edge
    unfolding tally_from
    tallied_held to l e = on_held k h t to l e

  pub tallied_end : {from to crossed : ℕ} {sum : ℤ} → Tallied vs X P from to crossed sum →
      tally_from vs X P from (to - from) ≡ Crossed crossed sum
  unfolding tally_from
  tallied_end t = on_end t

module _ (vs : List ℤ) (X P : Point) (i : ℕ) where
  pub test_held : test_by (is_on_border vs P i) (way_of vs X P i) ≡ OnBorder → tally_from vs X P i 1 ≡ Held i
  unfolding tally_from
  test_held e = one_held (is_on_border vs P) vs X P i e

  pub test_way : {way : ℤ} {c : ℕ} → test_by (is_on_border vs P i) (way_of vs X P i) ≡ Way way →
      c ≡ cond (is_zero (sign_of way)) 0 1 → tally_from vs X P i 1 ≡ Crossed c way
  unfolding tally_from
  test_way e k = one_way (is_on_border vs P) vs X P i e k

-- Of all edges.
pub tally_all : (vs : List ℤ) (X P : Point) (n : ℕ) {tally : Tally} → tally_from vs X P 0 (n - 0) ≡ tally →
    tally_from vs X P 0 n ≡ tally
tally_all vs X P n e = let all : n - 0 ≡ n = omega arith in rw all at e

-- From edge 0 on, where none before `from` is border and holds P.
pub none_start : (vs : List ℤ) (P : Point) → NoneBefore vs P 0
unfolding first_from
none_start vs P = refl

pub none_before : (vs : List ℤ) (X P : Point) {from i crossed : ℕ} {sum : ℤ} → from ≤ i → NoneBefore vs P from →
    Tallied vs X P from i crossed sum → NoneBefore vs P i
none_before vs X P {from} {i} h none t =
    let first : 0 + from ≡ from = omega arith in
    subst (λ k. NoneBefore vs P k) (here from i h)
    (first_pass (is_on_border vs P) 0 from (i - from) none
    ∙ ap (λ j. first_from (is_on_border vs P) j (i - from)) first ∙ t.none)

-- Points off a direction, by one number of the cross product or their sum. Proved, in order: off_not_same,
-- off_not_joined (an edge with both ends off C joins no direction to C's); off_step, off_elsewhere (as a loop goes);
-- joined_more, joined_rest (how many edges join two directions).
use mathlib.Core.Path.{◌≡◌, refl, sym, ◌∙◌, ap}
use mathlib.Core.Bool.{Bool, true, false, not, true≢false}
use mathlib.Core.List.{List}
use Prim.Native.Nat.{ℕ, ◌+◌, ◌-◌, ◌≤◌, ◌<◌}
use native.Mathlib.Omega.{arith}
use borrow.Author.Tests.{ltb-true, ltb-false}
use lib.Dec.{ltb}
use lib.IntN.{ℤ}
use Rattle.integers.specs.Sign.{sign_of, is_zero, is_positive}
use Rattle.integers.proofs.Table.{and_l}
use Rattle.sphere.specs.declared.point.Point.{Point}
use Rattle.sphere.specs.Point.{is_null, origin}
use Rattle.sphere.specs.Orientation.{cross_of, dot_of}
use Rattle.sphere.specs.Direction.{is_same_direction}
use Rattle.sphere.proofs.Laws.Orientation.{null→origin}
use Rattle.answer.specs.Search.{count_from}
use Rattle.answer.proofs.Laws.Blocks.{count_append, count_none}
use Rattle.polygon.specs.Vertices.{vertices_count, vertex_at, start_of, end_of}
use Rattle.polygon.specs.Border.{joins_of, is_coincident}
use Rattle.polygon.proofs.Laws.Edges.{next_start}
use Rattle.corridors.specs.declared.border.Axis.{Axis}
use Rattle.corridors.specs.declared.border.Axis.TheVariants.{X, Y, Z, Sum}
use Rattle.corridors.specs.Marked.{number_of, is_off, OffBetween, Elsewhere, Unjoined}

-- Where the cross product is null, so is each number by which it is asked.
none_off : (axis : Axis) → not (is_zero (sign_of (number_of axis origin))) ≡ false
none_off X = refl
none_off Y = refl
none_off Z = refl
none_off Sum = refl

pub off_not_same : (axis : Axis) (C P : Point) → is_off axis C P ≡ true → is_same_direction C P ≡ false
unfolding is_same_direction
off_not_same axis C P e = go (is_same_direction C P) refl
  where
    go : (t : Bool) → is_same_direction C P ≡ t → is_same_direction C P ≡ false
    go false h = h
    go true h =
        let line : cross_of C P ≡ origin = null→origin (cross_of C P)
        (and_l (is_null (cross_of C P)) (is_positive (sign_of (dot_of C P))) (rw h tt)) in
        absurd (true≢false (sym e ∙ ap (λ n. not (is_zero (sign_of (number_of axis n)))) line ∙ none_off axis))

pub off_not_joined : (C D A B : Point) → is_same_direction C A ≡ false → is_same_direction C B ≡ false →
    joins_of C D A B ≡ false
unfolding joins_of
off_not_joined C D A B a b = rw (a, b)

-- ---- as a loop over the vertices goes
module _ {vs : List ℤ} {C : Point} {i : ℕ} where
  module _ {at : ℕ} (o : OffBetween vs C i at) where
    pub off_step : is_same_direction C (vertex_at vs at) ≡ false → OffBetween vs C i (at + 1)
    off_step e = record {
      after = omega (arith, o.after);
      each = λ j h l. go (ltb j at) refl h l;
    }
      where
        go : (t : Bool) {j : ℕ} → ltb j at ≡ t → i ≤ j → j < at + 1 → is_same_direction C (vertex_at vs j) ≡ false
        go true {j} t h l = o.each j h (ltb-true j at t)
        go false {j} t h l = let last : j ≡ at = omega (arith, ltb-false j at t, l) in rw last e

    -- the edges between them
    pub off_elsewhere : (last : ℕ) → i ≤ last → last + 1 ≡ at → at ≤ vertices_count vs → Elsewhere vs C i last
    off_elsewhere last h e m = record {
      after = h;
      each = λ D j k l. off_not_joined C D (start_of vs j) (end_of vs j) (o.each j k (omega (arith, l, e)))
          (rw (next_start vs j (j + 1) refl (omega (arith, l, e, m)))
          (o.each (j + 1) (omega (arith, k)) (omega (arith, l, e))));
    }

-- ---- counting from one to the next
module _ {vs : List ℤ} {C D : Point} {j at : ℕ} (passed : Unjoined vs C D j at) {from count : ℕ} (h : from ≤ j)
    (e : count_from (is_coincident vs C D) from (j - from) ≡ count) where
  abbrev test : ℕ → Bool
  test = is_coincident vs C D

  here : from + (j - from) ≡ j
  here = omega arith

  none : count_from test j (at - j) ≡ 0
  none = count_none test j (at - j) (λ k l m. passed.each k l (omega (arith, l, m)))

  pub joined_more : is_coincident vs C D at ≡ true → count_from test from (at + 1 - from) ≡ count + 1
  unfolding count_from
  joined_more joined =
      let on : at + 1 - from ≡ (j - from) + ((at - j) + 1) = omega (arith, passed.after) in
      let there : j + (at - j) ≡ at = omega (arith, passed.after) in
      rw on (count_append test from (j - from) ((at - j) + 1)
      ∙ rw (here, e, count_append test j (at - j) 1, there, none, joined) (omega arith))

  pub joined_rest : count_from test from (at - from) ≡ count
  joined_rest =
      let on : at - from ≡ (j - from) + (at - j) = omega (arith, passed.after) in
      rw on (count_append test from (j - from) (at - j) ∙ rw (here, e, none) (omega arith))

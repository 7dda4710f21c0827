-- The edges that hold P, one by one, and which of them are border (document 02, P3). Proved, in order:
-- class_border, class_marked (a class, from its first edge on); settled_start, settled_past, settled_foremost,
-- settled_class (as a loop goes); settled_none, first_at (what it finds).
use mathlib.Core.Path.{◌≡◌, refl, sym, ◌∙◌, ap, ap₂, subst}
use mathlib.Core.Bool.{Bool, true, false, ◌&&◌, cond, true≢false}
use mathlib.Core.List.{List}
use Prim.Native.Nat.{ℕ, suc, ◌+◌, ◌-◌, ◌%◌, ◌≤◌, ◌<◌}
use native.Mathlib.Omega.{arith}
use borrow.Author.Tests.{ltb-true, ltb-false}
use lib.Dec.{eqb, ltb}
use lib.IntN.{ℤ}
use lib.ListN.{length, get_or}
use Rattle.sphere.specs.declared.point.Point.{Point}
use Rattle.std.specs.declared.option.Option.TheVariants.{None, Some}
use Rattle.answer.specs.Search.{first_from, count_from}
use Rattle.answer.proofs.Laws.Blocks.{first_pass, count_append, count_none}
use Rattle.answer.proofs.Laws.First.{none_first}
use Rattle.polygon.specs.Vertices.{vertices_count, start_of, end_of}
use Rattle.polygon.specs.Border.{joins_of, is_coincident, coincident_of, is_border}
use Rattle.polygon.specs.Verdict.{is_held_by, is_on_border}
use Rattle.polygon.proofs.Laws.Checks.{OffCircles}
use Rattle.polygon.proofs.Laws.Directions.{joined_test, joins_test, border_same}
use Rattle.polygon.proofs.Laws.Joined.{joins_self}
use Rattle.corridors.specs.Marked.{Marked}
use Rattle.search.specs.Walk.{NoneBefore}
use Rattle.search.specs.Border.{Foremost, ClassMarked, NoneHeld, Settled}
use Rattle.search.proofs.Laws.Coincident.{joins_held}

-- ---- a class, from its first edge on
module _ {vs : List ℤ} {i : ℕ} (first : Foremost vs i) where
  abbrev test : ℕ → Bool
  test = is_coincident vs (start_of vs i) (end_of vs i)

  pub class_border : {from k : ℕ} → from ≤ i → i < vertices_count vs → k ≡ count_from test from (vertices_count vs - from) →
      eqb (k % 2) 1 ≡ is_border vs i
  unfolding is_border coincident_of
  class_border {from} {k} h l e =
      let n = vertices_count vs in
      let whole : from + (n - from) ≡ n = omega arith in
      let begin : 0 + from ≡ from = omega arith in
      let all : count_from test 0 n ≡ k = subst (λ m. count_from test 0 m ≡ k) whole
      (count_append test 0 from (n - from)
      ∙ rw (count_none test 0 from (λ j g m. first.none j (omega (arith, m, h))), begin, ← e) (omega arith)) in
      ap (λ (c : ℕ). eqb (c % 2) 1) (sym all)

  pub class_marked : {from : ℕ} {marks after : List ℕ} → from ≤ i →
      Marked test from (vertices_count vs) marks after → ClassMarked vs i marks after
  class_marked {from} {marks} {after} h m = record { room = m.room; each = λ j l r. go (ltb j from) refl l r }
    where
      go : (t : Bool) {j : ℕ} → ltb j from ≡ t → j < vertices_count vs → j < length marks →
          get_or after j 0 ≡ cond (test j) 1 (get_or marks j 0)
      go true {j} t l r =
          let early = ltb-true j from t in
          m.before j early ∙ rw (first.none j (omega (arith, early, h)))
      go false {j} t l r = m.each j (ltb-false j from t) l r

-- ---- as a loop goes
one_of_two : (t : Bool) → ◌≡◌ {A = ℕ} (cond t 1 1) 1
one_of_two true = refl
one_of_two false = refl

module _ {vs : List ℤ} {P : Point} where
  pub settled_start : {marks : List ℕ} → vertices_count vs ≤ length marks →
      ((j : ℕ) → j < vertices_count vs → get_or marks j 0 ≡ 0) → Settled vs P 0 marks
  settled_start room clear = record {
    room = room;
    held = λ j h e. absurd (omega arith);
    unbordered = λ j h e. absurd (omega (arith, clear j h, e));
    alike = λ j k h l e. clear j h ∙ sym (clear k l);
  }

  module _ {i : ℕ} {marks : List ℕ} (s : Settled vs P i marks) where
    pub settled_past : (at : ℕ) → NoneHeld vs P i at → Settled vs P at marks
    settled_past at none = record {
      room = s.room;
      held = λ j h e. go (ltb j i) refl h e;
      unbordered = s.unbordered;
      alike = s.alike;
    }
      where
        go : (t : Bool) {j : ℕ} → ltb j i ≡ t → j < at → is_held_by vs P j ≡ true → get_or marks j 0 ≡ 1
        go true {j} t h e = s.held j (ltb-true j i t) e
        go false {j} t h e = absurd (true≢false (sym e ∙ none j (ltb-false j i t) h))

    pub settled_none : i ≤ vertices_count vs → NoneBefore vs P i
    settled_none h = none_first (is_on_border vs P) 0 i (λ j k l. go (is_held_by vs P j) refl l)
      where
        go : (t : Bool) {j : ℕ} → is_held_by vs P j ≡ t → j < 0 + i → (t && is_border vs j) ≡ false
        go true {j} e l = s.unbordered j (omega (arith, l, h)) (s.held j (omega (arith, l)) e)
        go false {j} e l = refl

    module _ (X : Point) (off : OffCircles vs X) (h : i < vertices_count vs) (held : is_held_by vs P i ≡ true) where
      abbrev own : ℕ → Bool
      own = is_coincident vs (start_of vs i) (end_of vs i)

      -- one that is not is the first of its class
      pub settled_foremost : (get_or marks i 0 ≡ 1 → ⊥) → Foremost vs i
      settled_foremost unmarked = record { none = λ j l. go j l (own j) refl }
        where
          go : (j : ℕ) → j < i → (t : Bool) → own j ≡ t → own j ≡ false
          go j l false e = e
          go j l true e =
              let here : is_held_by vs P j ≡ true =
              sym (joins_held (start_of vs i) (end_of vs i) (start_of vs j) (end_of vs j) X P (off i h)
              (off j (omega (arith, l, h))) (rw e tt)) ∙ held in
              absurd (unmarked (s.alike i j h (omega (arith, l, h)) e ∙ s.held j l here))

      -- its class is marked, and is no border
      pub settled_class : {after : List ℕ} → ClassMarked vs i marks after → is_border vs i ≡ false →
          Settled vs P (i + 1) after
      settled_class {after} m none = record {
        room = omega (arith, m.room, s.room);
        held = λ j l e. go (ltb j i) refl l e;
        unbordered = λ j l e. plain (own j) refl l e;
        alike = λ j k l o e. at j l
            ∙ ap₂ (λ t (x : ℕ). cond t 1 x)
            (joined_test (joins_of (start_of vs i) (end_of vs i)) (joins_test (start_of vs i) (end_of vs i)) (start_of vs j)
            (end_of vs j) (start_of vs k) (end_of vs k) e) (s.alike j k l o e)
            ∙ sym (at k o);
      }
        where
          at : (j : ℕ) → j < vertices_count vs → get_or after j 0 ≡ cond (own j) 1 (get_or marks j 0)
          at j l = m.each j l (omega (arith, l, s.room))

          go : (t : Bool) {j : ℕ} → ltb j i ≡ t → j < i + 1 → is_held_by vs P j ≡ true → get_or after j 0 ≡ 1
          go true {j} t l e =
              let less = ltb-true j i t in
              at j (omega (arith, less, h)) ∙ ap (cond (own j) 1) (s.held j less e) ∙ one_of_two (own j)
          go false {j} t l e =
              let same : j ≡ i = omega (arith, ltb-false j i t, l) in
              rw same (at i h
              ∙ ap (λ t. cond t 1 (get_or marks i 0)) (joins_self (start_of vs i) (end_of vs i) X (off i h)))

          plain : (t : Bool) {j : ℕ} → own j ≡ t → j < vertices_count vs → get_or after j 0 ≡ 1 → is_border vs j ≡ false
          plain true {j} t l e = border_same vs i j t ∙ none
          plain false {j} t l e =
              s.unbordered j l (sym (at j l ∙ ap (λ t. cond t 1 (get_or marks j 0)) t) ∙ e)

-- ---- what it finds
pub first_at : (test : ℕ → Bool) (edge n : ℕ) → first_from test 0 edge ≡ None → edge < n → test edge ≡ true →
    first_from test 0 n ≡ Some edge
unfolding first_from
first_at test edge n none h e =
    let whole : edge + suc (n - (edge + 1)) ≡ n = omega arith in
    let here : 0 + edge ≡ edge = omega arith in
    subst (λ k. first_from test 0 k ≡ Some edge) whole
    (first_pass test 0 edge (suc (n - (edge + 1))) none ∙ rw (here, e))

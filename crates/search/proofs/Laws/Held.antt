-- What a walk that ends at the first edge that holds P says. Proved, in order: next_held, none_held (the next such
-- edge); all_edges, tally_none, tally_same (none holds P); first_held, first_below, first_holds, first_foremost, first_border (the
-- first that does); other_foremost, other_none (the first of another class); tally_at, tally_passed (by the first
-- border edge that does).
use mathlib.Core.Path.{◌≡◌, refl, sym, ◌∙◌, ap, subst}
use mathlib.Core.Bool.{Bool, true, false, ◌&&◌, true≢false}
use mathlib.Core.List.{List}
use mathlib.Core.Logic.{◌⊎◌, inl, inr, ⊎_elim}
use Prim.Native.Nat.{ℕ, ◌-◌, ◌≤◌, ◌<◌}
use native.Mathlib.Nat.{eq-or-lt_of_le}
use native.Mathlib.Omega.{arith}
use borrow.Author.Tests.{ltb-true, ltb-false}
use lib.Dec.{ltb}
use lib.IntN.{ℤ}
use Rattle.sphere.specs.declared.point.Point.{Point}
use Rattle.std.specs.declared.option.Option.TheVariants.{None, Some}
use Rattle.answer.specs.Search.{first_from, count_from, sum_from}
use Rattle.answer.proofs.Laws.First.{none_first, first_found}
use Rattle.answer.proofs.Laws.Search.{first_none}
use Rattle.polygon.specs.Vertices.{vertices_count, start_of, end_of}
use Rattle.polygon.specs.Border.{joins_of, is_coincident, is_border}
use Rattle.polygon.specs.Verdict.{is_held_by, is_on_border, is_crossed, way_of, boundary_of}
use Rattle.polygon.proofs.Laws.Checks.{OffCircles}
use Rattle.polygon.proofs.Laws.Directions.{joined_test, joins_test, border_same}
use Rattle.polygon.proofs.Laws.Joined.{joins_self}
use Rattle.search.specs.declared.walk.Tally.{Tally}
use Rattle.search.specs.declared.walk.Tally.TheVariants.{Held, Crossed}
use Rattle.search.specs.Walk.{tally_on, tally_from, stops_at}
use Rattle.search.specs.Border.{Foremost, NoneHeld, HeldAt, OneClass, OtherAt}
use Rattle.search.proofs.Laws.Coincident.{joins_held}
use Rattle.search.proofs.Laws.Settled.{first_at}
use Rattle.search.proofs.Laws.Tally.{crossed_parts, held_found}

and-true : (b : Bool) → (b && true) ≡ b
and-true true = refl
and-true false = refl

and-false : (b : Bool) → (b && false) ≡ false
and-false true = refl
and-false false = refl

-- ---- the next edge that holds P
module _ (vs : List ℤ) (X P : Point) (from : ℕ) (h : from ≤ vertices_count vs) where
  abbrev walked : Tally
  walked = tally_on (stops_at vs P true) vs X P from (vertices_count vs - from)

  pub next_held : {edge : ℕ} → walked ≡ Held edge → HeldAt vs P from edge
  next_held {edge} e =
      let k = vertices_count vs - from in
      let found = first_found (stops_at vs P true) from k edge
      (held_found _ (count_from (is_crossed vs X P) from k) (sum_from (way_of vs X P) from k) e) in
      record {
        after = found.from;
        before = omega (arith, found.below, h);
        passed = λ j l m. sym (and-true (is_held_by vs P j)) ∙ found.before j l m;
        held = sym (and-true (is_held_by vs P edge)) ∙ found.holds;
      }

  pub none_held : {c : ℕ} {s : ℤ} → walked ≡ Crossed c s → NoneHeld vs P from (vertices_count vs)
  none_held e j l m =
      let k = vertices_count vs - from in
      let parts = crossed_parts _ (count_from (is_crossed vs X P) from k) (sum_from (way_of vs X P) from k) e in
      sym (and-true (is_held_by vs P j)) ∙ first_none (stops_at vs P true) from k j parts.none l (omega (arith, m))

-- ---- all edges
all_left : (n : ℕ) → n - 0 ≡ n
all_left n = omega arith

pub all_edges : (test : ℕ → Bool) (vs : List ℤ) (X P : Point) (n : ℕ) →
    tally_on test vs X P 0 (n - 0) ≡ tally_on test vs X P 0 n
all_edges test vs X P n = rw (all_left n)

split : (j edge : ℕ) → (j < edge) ⊎ (edge ≤ j)
split j edge = go (ltb j edge) refl
  where
    go : (t : Bool) → ltb j edge ≡ t → (j < edge) ⊎ (edge ≤ j)
    go true e = inl (ltb-true j edge e)
    go false e = inr (ltb-false j edge e)

module _ (vs : List ℤ) (X P : Point) where
  abbrev n : ℕ
  n = vertices_count vs

  pub tally_none : {c : ℕ} {s : ℤ} → tally_on (stops_at vs P true) vs X P 0 n ≡ Crossed c s →
      tally_from vs X P 0 n ≡ Crossed c s
  unfolding tally_from
  tally_none e =
      let parts = crossed_parts _ (count_from (is_crossed vs X P) 0 n) (sum_from (way_of vs X P) 0 n) e in
      let free : first_from (is_on_border vs P) 0 n ≡ None = none_first (is_on_border vs P) 0 n (λ j h l.
      ap (λ b. b && is_border vs j) (sym (and-true (is_held_by vs P j))
      ∙ first_none (stops_at vs P true) 0 n j parts.none h l)) in
      rw (free, parts.count, parts.total)

  -- and where no edge does, of what the walk said
  pub tally_same : {t : Tally} → tally_on (stops_at vs P true) vs X P 0 n ≡ t → ((edge : ℕ) → t ≡ Held edge → ⊥) →
      t ≡ tally_from vs X P 0 n
  tally_same {t = Held edge} e none = absurd (none edge refl)
  tally_same {t = Crossed c s} e none = sym (tally_none e)

  pub first_held : {edge : ℕ} → tally_on (stops_at vs P true) vs X P 0 n ≡ Held edge →
      first_from (stops_at vs P true) 0 n ≡ Some edge
  first_held e = held_found _ (count_from (is_crossed vs X P) 0 n) (sum_from (way_of vs X P) 0 n) e

  -- ---- the first edge that holds P
  module _ {edge : ℕ} (first : first_from (stops_at vs P true) 0 n ≡ Some edge) where
    pub first_below : edge < n
    first_below = omega (arith, (first_found (stops_at vs P true) 0 n edge first).below)

    pub first_holds : is_held_by vs P edge ≡ true
    first_holds = sym (and-true (is_held_by vs P edge)) ∙ (first_found (stops_at vs P true) 0 n edge first).holds

    before : (j : ℕ) → j < edge → is_held_by vs P j ≡ false
    before j l =
        sym (and-true (is_held_by vs P j)) ∙ (first_found (stops_at vs P true) 0 n edge first).before j (omega arith) l

    pub first_foremost : OffCircles vs X → Foremost vs edge
    first_foremost off = record { none = λ j l. go j l (is_coincident vs (start_of vs edge) (end_of vs edge) j) refl }
      where
        go : (j : ℕ) → j < edge → (t : Bool) → is_coincident vs (start_of vs edge) (end_of vs edge) j ≡ t →
            is_coincident vs (start_of vs edge) (end_of vs edge) j ≡ false
        go j l false e = e
        go j l true e = absurd (true≢false (sym first_holds
            ∙ joins_held (start_of vs edge) (end_of vs edge) (start_of vs j) (end_of vs j) X P (off edge first_below)
            (off j (omega (arith, l, first_below))) (rw e tt) ∙ before j l))

    pub first_border : is_border vs edge ≡ true → tally_from vs X P 0 n ≡ Held edge
    unfolding tally_from
    first_border e =
        let found = first_at (is_on_border vs P) edge n
        (none_first (is_on_border vs P) 0 edge (λ j h l. ap (λ b. b && is_border vs j) (before j (omega (arith, l)))))
        first_below (ap (λ b. b && is_border vs edge) first_holds ∙ e) in
        rw found

    -- ---- the first of another class, where the first is no border
    module _ (off : OffCircles vs X) {at : ℕ} (passed : OneClass vs P edge at) where
      abbrev own : ℕ → Bool
      own = is_coincident vs (start_of vs edge) (end_of vs edge)

      same : (j : ℕ) → j < at → is_held_by vs P j ≡ true → own j ≡ true
      same j l held = ⊎_elim
          (λ early. absurd (true≢false (sym held ∙ before j early)))
          (λ rest. ⊎_elim
          (λ e. subst (λ k. own k ≡ true) e (joins_self (start_of vs edge) (end_of vs edge) X (off edge first_below)))
          (λ later. passed j later l held) (eq-or-lt_of_le rest))
          (split j edge)

      pub other_foremost : OtherAt vs P edge at → Foremost vs at
      other_foremost o = record { none = λ j l. go j l (is_coincident vs (start_of vs at) (end_of vs at) j) refl }
        where
          go : (j : ℕ) → j < at → (t : Bool) → is_coincident vs (start_of vs at) (end_of vs at) j ≡ t →
              is_coincident vs (start_of vs at) (end_of vs at) j ≡ false
          go j l false e = e
          go j l true e =
              let held : is_held_by vs P j ≡ true =
              sym (joins_held (start_of vs at) (end_of vs at) (start_of vs j) (end_of vs j) X P (off at o.before)
              (off j (omega (arith, l, o.before))) (rw e tt)) ∙ o.held in
              absurd (true≢false (sym (same j l held)
              ∙ sym (joined_test (joins_of (start_of vs edge) (end_of vs edge))
              (joins_test (start_of vs edge) (end_of vs edge))
              (start_of vs at) (end_of vs at) (start_of vs j) (end_of vs j) e)
              ∙ o.other))

      pub other_none : is_border vs edge ≡ false → first_from (is_on_border vs P) 0 at ≡ None
      other_none none = none_first (is_on_border vs P) 0 at (λ j h l. go j (omega (arith, l)) (is_held_by vs P j) refl)
        where
          go : (j : ℕ) → j < at → (t : Bool) → is_held_by vs P j ≡ t → (is_held_by vs P j && is_border vs j) ≡ false
          go j l false e = ap (λ b. b && is_border vs j) e
          go j l true e = ap (λ b. b && is_border vs j) e ∙ border_same vs edge j (same j l e) ∙ none

  -- ---- by the first border edge that does
  pub tally_at : {edge : ℕ} → boundary_of vs P ≡ Some edge → tally_from vs X P 0 n ≡ Held edge
  unfolding tally_from boundary_of
  tally_at e = rw e

  pub tally_passed : boundary_of vs P ≡ None →
      tally_on (stops_at vs P false) vs X P 0 n ≡ tally_from vs X P 0 n
  unfolding tally_from boundary_of
  tally_passed e =
      let free : first_from (stops_at vs P false) 0 n ≡ None =
      none_first (stops_at vs P false) 0 n (λ j h l. and-false (is_held_by vs P j)) in
      rw (free, e)

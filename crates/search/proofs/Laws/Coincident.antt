-- Edges that join the same two directions (document 02, P3). Proved, in order: joins_held (they hold the same points),
-- not_coincident (an edge that does not hold P with one that does), one_sided_not_coincident,
-- skipped_not_coincident; earlier_not_border (one before edge i, where none before it is border).
use mathlib.Core.Path.{◌≡◌, refl, sym, ◌∙◌, ap}
use mathlib.Core.Bool.{Bool, true, false, ◌&&◌, ◌||◌, true≢false}
use mathlib.Core.List.{List}
use Prim.Native.Nat.{ℕ, ◌<◌}
use native.Mathlib.Omega.{arith}
use lib.Dec.{T}
use lib.IntN.{ℤ, pos}
use Rattle.integers.proofs.Table.{and_l, and_r}
use Rattle.sphere.specs.declared.point.Point.{Point}
use Rattle.sphere.specs.Orientation.{orientation_of}
use Rattle.sphere.specs.Direction.{is_same_direction}
use Rattle.sphere.specs.OnEdge.{is_on_edge}
use Rattle.sphere.proofs.Laws.Aligned.{aligned_refl, same→aligned}
use Rattle.sphere.proofs.Laws.OnEdge.{on_edge_swap, on_edge_aligned}
use Rattle.polygon.specs.Vertices.{vertices_count, start_of, end_of}
use Rattle.polygon.specs.Border.{joins_of, is_coincident, is_border}
use Rattle.polygon.specs.Verdict.{is_held_by, is_on_border}
use Rattle.answer.proofs.Laws.Search.{first_none}
use Rattle.polygon.proofs.Laws.Checks.{OffCircles}
use Rattle.polygon.proofs.Laws.Directions.{border_same}
use Rattle.search.specs.Boxes.{is_skipped}
use Rattle.search.specs.Claims.{InRun}
use Rattle.search.specs.Scan.{is_one_sided}
use Rattle.search.specs.Walk.{NoneBefore}
use Rattle.search.proofs.Laws.Runs.{run_within}
use Rattle.search.proofs.Laws.Skipped.{skipped_one_sided}
use Rattle.search.proofs.Laws.OneSided.{one_sided_not_held}

module _ (A B C D X P : Point) (off : orientation_of A B X ≡ pos 0 → ⊥) (off' : orientation_of C D X ≡ pos 0 → ⊥) where
  pub joins_held : T (joins_of A B C D) → is_on_edge A B P ≡ is_on_edge C D P
  unfolding joins_of
  joins_held j = go (is_same_direction A C && is_same_direction B D) refl j
    where
      go : (b : Bool) → (is_same_direction A C && is_same_direction B D) ≡ b →
          T (b || (is_same_direction A D && is_same_direction B C)) → is_on_edge A B P ≡ is_on_edge C D P
      go true e t = on_edge_aligned A B X off P C D P
          (same→aligned A C (and_l (is_same_direction A C) (is_same_direction B D) (rw e tt)))
          (same→aligned B D (and_r (is_same_direction A C) (is_same_direction B D) (rw e tt))) (aligned_refl P)
      go false e t = on_edge_aligned A B X off P D C P
          (same→aligned A D (and_l (is_same_direction A D) _ t))
          (same→aligned B C (and_r (is_same_direction A D) _ t)) (aligned_refl P)
          ∙ sym (on_edge_swap C D X off' P)

-- Edge i holds P.
module _ (vs : List ℤ) (X P : Point) (off : OffCircles vs X) (i : ℕ) (h : i < vertices_count vs)
    (held : is_held_by vs P i ≡ true) where
  pub not_coincident : (j : ℕ) → j < vertices_count vs → is_held_by vs P j ≡ false →
      is_coincident vs (start_of vs i) (end_of vs i) j ≡ false
  not_coincident j l free = go (is_coincident vs (start_of vs i) (end_of vs i) j) refl
    where
      go : (t : Bool) → is_coincident vs (start_of vs i) (end_of vs i) j ≡ t →
          is_coincident vs (start_of vs i) (end_of vs i) j ≡ false
      go true e = absurd (true≢false (sym held ∙ joins_held (start_of vs i) (end_of vs i) (start_of vs j) (end_of vs j) X P
          (off i h) (off j l) (rw e tt) ∙ free))
      go false e = e

  pub one_sided_not_coincident : (j : ℕ) → j < vertices_count vs → is_one_sided vs X P j ≡ true →
      is_coincident vs (start_of vs i) (end_of vs i) j ≡ false
  one_sided_not_coincident j l e = not_coincident j l (one_sided_not_held vs X P off j l e)

  -- the edges of a run that is skipped
  pub skipped_not_coincident : (r : ℕ) → is_skipped vs X P r ≡ true → (j : ℕ) → InRun vs r j →
      is_coincident vs (start_of vs i) (end_of vs i) j ≡ false
  skipped_not_coincident r e j l =
      let below : j < vertices_count vs = omega (arith, l.before, run_within (vertices_count vs) r) in
      one_sided_not_coincident j below (skipped_one_sided vs X P r e j l)

  -- one before edge i, where no edge before it is border and holds P
  module _ (none : NoneBefore vs P i) where
    pub earlier_not_border : (j : ℕ) → j < i → is_coincident vs (start_of vs i) (end_of vs i) j ≡ true →
        is_border vs i ≡ false
    earlier_not_border j l e =
        let here : is_held_by vs P j ≡ true = sym (joins_held (start_of vs i) (end_of vs i) (start_of vs j) (end_of vs j) X P
        (off i h) (off j (omega (arith, l, h))) (rw e tt)) ∙ held in
        sym (border_same vs i j e) ∙ sym (ap (λ b. b && is_border vs j) here)
        ∙ first_none (is_on_border vs P) 0 i j none (omega arith) (omega (arith, l))

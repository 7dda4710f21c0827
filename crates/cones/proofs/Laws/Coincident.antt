-- Edges that join the same two directions, by a complete list (document 02, P3). Defined: Counted. Proved, in order:
-- list_coincident (an edge off a list that is complete for P is not coincident with one that holds P); count_start,
-- count_step (a count over the list is the count over all edges), count_few.
use mathlib.Core.Path.{◌≡◌, refl, sym, ◌∙◌, ap, subst}
use mathlib.Core.Bool.{Bool, true, false, cond}
use mathlib.Core.List.{List}
use Prim.Native.Nat.{ℕ, suc, ◌+◌, ◌≤◌, ◌<◌}
use native.Mathlib.Omega.{arith}
use lib.IntN.{ℤ}
use lib.ListN.{get_or}
use Rattle.sphere.specs.declared.point.Point.{Point}
use Rattle.answer.specs.Search.{count_from}
use Rattle.answer.proofs.Laws.Blocks.{count_append, count_bound}
use Rattle.polygon.specs.Vertices.{vertices_count, start_of, end_of}
use Rattle.polygon.specs.Border.{is_coincident}
use Rattle.polygon.specs.Verdict.{is_held_by}
use Rattle.polygon.proofs.Laws.Checks.{OffCircles}
use Rattle.search.proofs.Laws.Coincident.{not_coincident}
use Rattle.azimuths.specs.Sectors.{Idle}
use Rattle.cones.specs.Cones.{Covers, none, pass, keep}
use Rattle.cones.proofs.Laws.Covers.{covers_least}

pub list_coincident : (vs : List ℤ) (X P : Point) → OffCircles vs X → (o : ℕ) → o < vertices_count vs →
    is_held_by vs P o ≡ true → {l : List ℕ} {a n b : ℕ} → n ≤ vertices_count vs → Covers (Idle vs X P) l a n b →
    Covers (λ j. is_coincident vs (start_of vs o) (end_of vs o) j ≡ false) l a n b
list_coincident vs X P off o less held h none = none
list_coincident vs X P off o less held h (pass {i} c f) =
    pass (list_coincident vs X P off o less held (omega arith) c)
    (not_coincident vs X P off o less held i (omega arith) f.unheld)
list_coincident vs X P off o less held h (keep c q) = keep (list_coincident vs X P off o less held (omega arith) c) q

-- ---- a count over the list: before entry e, the count over all edges that the entries before it cover
pub record Counted (test : ℕ → Bool) (l : List ℕ) (a e k : ℕ) : Type 0 where
  pub count : (i : ℕ) → Covers (λ j. test j ≡ false) l a i e → count_from test 0 i ≡ k

module _ (test : ℕ → Bool) where
  next : (i : ℕ) → count_from test 0 (suc i) ≡ count_from test 0 i + cond (test i) 1 0
  unfolding count_from
  next i =
      let one : suc i ≡ i + 1 = omega arith in
      let zero-on : 0 + i ≡ i = omega arith in
      ap (count_from test 0) one ∙ count_append test 0 i 1 ∙ rw zero-on

  free : (i : ℕ) {k : ℕ} → count_from test 0 i ≡ k → test i ≡ false → count_from test 0 (suc i) ≡ k
  free i e f = next i ∙ rw f (omega (arith, e))

module _ {test : ℕ → Bool} {l : List ℕ} {a : ℕ} where
  pub count_start : Counted test l a a 0
  unfolding count_from
  count_start = record { count = λ i c. go c refl }
    where
      go : {i b : ℕ} → Covers (λ j. test j ≡ false) l a i b → b ≡ a → count_from test 0 i ≡ 0
      go none e = refl
      go (pass {i} c f) e = free test i (go c e) f
      go (keep c f) e = absurd (omega (arith, covers_least c))

  pub count_step : {e k : ℕ} → a ≤ e → Counted test l a e k →
      Counted test l a (e + 1) (k + cond (test (get_or l e 0)) 1 0)
  count_step {e} {k} h w = record { count = λ i c. go c refl }
    where
      go : {i b : ℕ} → Covers (λ j. test j ≡ false) l a i b → b ≡ e + 1 →
          count_from test 0 i ≡ k + cond (test (get_or l e 0)) 1 0
      go none q = absurd (omega arith)
      go (pass {i} c f) q = free test i (go c q) f
      go (keep {i} {b} c p) q =
          let same : b ≡ e = omega arith in
          let here : get_or l e 0 ≡ i = ap (λ x. get_or l x 0) (sym same) ∙ p in
          next test i ∙ rw (here, w.count i (subst (λ x. Covers (λ j. test j ≡ false) l a i x) same c))

  pub count_few : {e k : ℕ} → Counted test l a e k → (i : ℕ) → Covers (λ j. test j ≡ false) l a i e → k ≤ i
  count_few w i c = rw (← w.count i c) (count_bound test 0 i)

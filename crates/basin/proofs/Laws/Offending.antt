-- The test of a pair of edges decides whether they offend, for a polygon that passed lines 10 to 14. Proved, in order:
-- basin_polygon; beside_shared; offends→test, test→offends; beside_passed (an edge whose ends lie strictly on one side
-- of the row's plane does not offend: it is passed over).
use mathlib.Core.Path.{◌≡◌, refl, sym, ◌∙◌, ap, subst}
use mathlib.Core.List.{List, [], ◌∷◌}
use mathlib.Core.Bool.{Bool, true, false, not, ◌&&◌, cond, true≢false}
use Prim.Native.Nat.{ℕ, ◌+◌, ◌<◌}
use native.Mathlib.Omega.{arith}
use borrow.Author.Tests.{eq-eqb, eqb-true}
use lib.Dec.{T, eqb, ltb}
use lib.IntN.{ℤ}
use Rattle.integers.specs.Sign.{Sign, negative, nought, positive, sign_of}
use Rattle.integers.proofs.Polynomial.{var}
use Rattle.integers.proofs.Identity.{◌:+◌, ◌:*◌}
use Rattle.integers.proofs.Sign.{is, equal, eq, gt}
use Rattle.integers.proofs.Table.{table, shown, not-true}
use Rattle.sphere.specs.declared.point.Point.{Point}
use Rattle.sphere.specs.Point.{limit_of, is_grid_number, grid_numbered}
use Rattle.sphere.specs.Orientation.{orientation_of}
use Rattle.sphere.specs.Crossing.{is_beside}
use Rattle.sphere.specs.Direction.{is_same_direction}
use Rattle.sphere.specs.OnEdge.{OnEdge}
use Rattle.sphere.proofs.Laws.Aligned.{aligned_refl, aligned_sign, same→aligned}
use Rattle.sphere.proofs.Laws.Amid.{Inner, level_sum, on_edge_cases}
use Rattle.std.specs.declared.result.Result.TheVariants.{Ok}
use Rattle.answer.specs.declared.Reason.TheVariants.{ManyVertices}
use Rattle.answer.specs.Chain.{fails_if}
use Rattle.answer.proofs.Laws.Chain.{then_passed}
use Rattle.polygon.specs.Vertices.{vertices_count, start_of, end_of}
use Rattle.polygon.specs.Checks.{polygon_check}
use Rattle.polygon.specs.Grids.{grid_check}
use Rattle.polygon.proofs.Laws.Checks.{polygon_passed}
use Rattle.basin.specs.Shared.{Shared, is_shared, is_shared_beyond}
use Rattle.basin.specs.Pairs.{is_offending}
use Rattle.basin.specs.Basin.{basin_check}
use Rattle.basin.specs.Claims.{Offends}
use Rattle.basin.proofs.Laws.Apart.{next_is, last_is, next_decided, last_decided, pair_decided}

-- What the profile's checks say of the polygon.
pub basin_polygon : (g : ℕ) (vs : List ℤ) → basin_check g vs ≡ Ok tt →
    polygon_check (limit_of (grid_numbered g)) vs ≡ Ok tt
unfolding basin_check
basin_polygon g vs e =
    let rest = (then_passed (grid_check vs (not (is_grid_number g))) _ e).1 in
    (then_passed (polygon_check (limit_of (grid_numbered g)) vs) (fails_if ManyVertices (ltb 512 (vertices_count vs))) rest).0

-- ---- ends strictly on one side
beside_end : (s : Sign) → is_beside s nought ≡ false
beside_end negative = refl
beside_end nought = refl
beside_end positive = refl

module _ (A B C D : Point) where
  abbrev beside : Bool
  beside = is_beside (sign_of (orientation_of A B C)) (sign_of (orientation_of A B D))

  -- a point in the plane of A B that is in the direction of E
  level_at : {P : Point} (E : Point) → OnEdge A B P → is_same_direction P E ≡ true → sign_of (orientation_of A B E) ≡ nought
  level_at {P} E f e =
      sym (aligned_sign A A B B P E (aligned_refl A) (aligned_refl B) (same→aligned P E (subst T (sym e) tt)))
      ∙ ap sign_of f.level

  amid_apart : {P : Point} → OnEdge A B P → Inner C D P → beside ≡ false
  amid_apart {P} f v = not-true beside (shown (table
      (var 0 ∷ var 1 ∷ var 2 ∷ var 3 ∷ var 4 ∷ var 5 ∷ [])
      (λ k c d o s1 s2. [])
      (λ k c d o s1 s2.
      is k gt ∷ is c gt ∷ is d gt ∷ is o eq ∷ equal (k :* o) (c :* s1 :+ d :* s2) ∷ [])
      (λ k c d o s1 s2. not (is_beside s1 s2)))
      (v.k ∷ v.a ∷ v.b ∷ orientation_of A B P ∷ orientation_of A B C ∷ orientation_of A B D ∷ []) tt
      v.k_positive v.a_positive v.b_positive f.level (level_sum v.sum A B))

  pub beside_shared : Shared A B C D → beside ≡ false
  beside_shared s = on_edge_cases s.some s.second
      (λ e. ap (λ g. is_beside g (sign_of (orientation_of A B D))) (level_at C s.first e))
      (λ e. ap (is_beside (sign_of (orientation_of A B C))) (level_at D s.first e)
      ∙ beside_end (sign_of (orientation_of A B C)))
      (amid_apart s.first)

module _ (limit : ℕ) (vs : List ℤ) (e : polygon_check limit vs ≡ Ok tt) {i j : ℕ} (low : i < j)
    (high : j < vertices_count vs) where
  -- ---- the test, by whether they are neighbours
  abbrev tested : Bool → Bool → Bool → Bool
  tested a b c = cond a (is_shared_beyond (start_of vs i) (end_of vs i) (end_of vs j))
      (cond (b && c) (is_shared_beyond (start_of vs j) (start_of vs i) (end_of vs i))
      (is_shared (start_of vs i) (end_of vs i) (start_of vs j) (end_of vs j)))

  pub offends→test : Offends vs i j → is_offending vs i j ≡ true
  unfolding is_offending
  offends→test o = go (eqb j (i + 1)) (eqb i 0) (eqb (j + 1) (vertices_count vs)) refl refl refl
    where
      shared : is_shared (start_of vs i) (end_of vs i) (start_of vs j) (end_of vs j) ≡ true
      shared = (pair_decided limit vs e low high).share→test
          (record { point = o.point; some = o.some; first = o.first; second = o.second })

      go : (a b c : Bool) → eqb j (i + 1) ≡ a → eqb i 0 ≡ b → eqb (j + 1) (vertices_count vs) ≡ c → tested a b c ≡ true
      go true b c p q r = let n = eqb-true j (i + 1) p in (next_decided limit vs e low high n).share→test (record {
        point = o.point;
        some = o.some;
        first = o.first;
        second = subst (λ S. OnEdge S (end_of vs j) o.point) (sym (next_is limit vs e low high n)) o.second;
        beyond = o.beyond_next n;
      })
      go false true true p q r =
          let z = eqb-true i 0 q in
          let n = eqb-true (j + 1) (vertices_count vs) r in
          (last_decided limit vs e low high z n).share→test (record {
            point = o.point;
            some = o.some;
            first = subst (λ S. OnEdge (start_of vs j) S o.point) (last_is limit vs e low high z n) o.second;
            second = o.first;
            beyond = o.beyond_last z n;
          })
      go false true false p q r = shared
      go false false c p q r = shared

  no_eq : (m n : ℕ) {A : Type 0} → eqb m n ≡ false → m ≡ n → A
  no_eq m n e q = absurd (true≢false (sym (eq-eqb m n q) ∙ e))

  few : {A : Type 0} → j ≡ i + 1 → i ≡ 0 → j + 1 ≡ vertices_count vs → A
  few p q r = absurd (omega (arith, (polygon_passed e).0.least))

  pub test→offends : is_offending vs i j ≡ true → Offends vs i j
  unfolding is_offending
  test→offends t = go (eqb j (i + 1)) (eqb i 0) (eqb (j + 1) (vertices_count vs)) refl refl refl t
    where
      apart : is_shared (start_of vs i) (end_of vs i) (start_of vs j) (end_of vs j) ≡ true → (j ≡ i + 1 → ⊥) →
          (i ≡ 0 → j + 1 ≡ vertices_count vs → ⊥) → Offends vs i j
      apart t p q = let s = (pair_decided limit vs e low high).test→share t in record {
        order = low;
        below = high;
        point = s.point;
        some = s.some;
        first = s.first;
        second = s.second;
        beyond_next = λ n. absurd (p n);
        beyond_last = λ z n. absurd (q z n);
      }

      go : (a b c : Bool) → eqb j (i + 1) ≡ a → eqb i 0 ≡ b → eqb (j + 1) (vertices_count vs) ≡ c →
          tested a b c ≡ true → Offends vs i j
      go true b c p q r t =
          let n = eqb-true j (i + 1) p in
          let s = (next_decided limit vs e low high n).test→share t in
          record {
            order = low;
            below = high;
            point = s.point;
            some = s.some;
            first = s.first;
            second = subst (λ S. OnEdge S (end_of vs j) s.point) (next_is limit vs e low high n) s.second;
            beyond_next = λ m. s.beyond;
            beyond_last = λ z m. few n z m;
          }
      go false true true p q r t =
          let z = eqb-true i 0 q in
          let n = eqb-true (j + 1) (vertices_count vs) r in
          let s = (last_decided limit vs e low high z n).test→share t in
          record {
            order = low;
            below = high;
            point = s.point;
            some = s.some;
            first = s.second;
            second = subst (λ S. OnEdge (start_of vs j) S s.point) (sym (last_is limit vs e low high z n)) s.first;
            beyond_next = λ m. no_eq j (i + 1) p m;
            beyond_last = λ y m. s.beyond;
          }
      go false true false p q r t = apart t (no_eq j (i + 1) p) (λ z. no_eq (j + 1) (vertices_count vs) r)
      go false false c p q r t = apart t (no_eq j (i + 1) p) (λ z. no_eq i 0 q z)

  -- ---- the pairs that the search passes over
  pub beside_passed : is_beside (sign_of (orientation_of (start_of vs i) (end_of vs i) (start_of vs j)))
      (sign_of (orientation_of (start_of vs i) (end_of vs i) (end_of vs j))) ≡ true → is_offending vs i j ≡ false
  beside_passed b = go (is_offending vs i j) refl
    where
      go : (t : Bool) → is_offending vs i j ≡ t → t ≡ false
      go false q = refl
      go true q =
          let o = test→offends q in
          absurd (true≢false (sym b ∙ beside_shared (start_of vs i) (end_of vs i) (start_of vs j) (end_of vs j)
          (record { point = o.point; some = o.some; first = o.first; second = o.second })))

-- The edges of a polygon that passed lines 10 to 14. Proved, in order: apart_of (points that are not null, not in one
-- direction and not antipodal are not parallel), edges_apart; next_is, last_is (neighbours meet at a vertex); decided
-- (the tests decide of its edges: next_decided, last_decided, pair_decided).
use mathlib.Core.Path.{◌≡◌, refl, sym, ◌∙◌, ap, subst}
use mathlib.Core.List.{List, [], ◌∷◌}
use mathlib.Core.Bool.{Bool, true, false, ◌&&◌, true≢false}
use Prim.Native.Nat.{ℕ, ◌+◌, ◌<◌}
use native.Mathlib.Omega.{arith}
use lib.Dec.{T}
use lib.IntN.{ℤ, pos, ◌*ℤ◌}
use lib.Signed.{◌<ℤ◌}
use Rattle.integers.specs.Sign.{Sign, negative, nought, positive, sign_of, is_negative, is_positive}
use Rattle.integers.proofs.Polynomial.{var}
use Rattle.integers.proofs.Identity.{◌:+◌, ◌:*◌, ◌:=◌}
use Rattle.integers.proofs.Sign.{is, equal, eq, ne, gt, allows_is, conclude}
use Rattle.sphere.specs.declared.point.Point.{Point}
use Rattle.sphere.specs.Point.{is_null, origin}
use Rattle.sphere.specs.Orientation.{cross_of, dot_of}
use Rattle.sphere.specs.Direction.{is_parallel, is_same_direction, is_antipodal}
use Rattle.sphere.proofs.Vectors.{cross_e, dot_e, vecs}
use Rattle.sphere.proofs.Laws.Orientation.{null→origin, up_to}
use Rattle.sphere.proofs.Laws.Amid.{some_positive}
use Rattle.std.specs.declared.result.Result.TheVariants.{Ok}
use Rattle.answer.specs.declared.Reason.TheVariants.{AntipodalEnds, SameEnds, VertexNull}
use Rattle.answer.specs.Search.{first_from}
use Rattle.answer.specs.Chain.{◌then◌}
use Rattle.answer.proofs.Laws.Search.{first_none}
use Rattle.answer.proofs.Laws.Chain.{then_passed, fails_at_passed}
use Rattle.polygon.specs.Vertices.{vertices_count, vertex_at, next_of, start_of, end_of}
use Rattle.polygon.specs.Checks.{polygon_check, list_check, beyond_check, null_check, same_check, antipodal_check}
use Rattle.polygon.proofs.Laws.Edges.{next_below, next_start}
use Rattle.polygon.proofs.Laws.Count.{next_last}
use Rattle.basin.specs.Claims.{DecidedShared, DecidedBeyond}
use Rattle.basin.proofs.Laws.Shared.{shared_decided}
use Rattle.basin.proofs.Laws.Beyond.{beyond_decided}

-- (A-as-B)² = (A-as-A)(B-as-B) on one line
product : (A B : Point) → cross_of A B ≡ origin → dot_of A B *ℤ dot_of A B ≡ dot_of A A *ℤ dot_of B B
unfolding cross_of dot_of
product A B line = up_to A B line (cross_of B A) (vecs 2 (λ a b. dot_e a b :* dot_e a b
    := dot_e a a :* dot_e b b :+ dot_e (cross_e b a) (cross_e a b)) tt A B)

squares : (A B : Point) → cross_of A B ≡ origin → pos 0 <ℤ dot_of A A → pos 0 <ℤ dot_of B B → dot_of A B ≡ pos 0 → ⊥
squares A B line a b e =
    conclude (var 2) ne (is (var 0) gt ∷ is (var 1) gt ∷ equal (var 2 :* var 2) (var 0 :* var 1) ∷ [])
    (dot_of A A ∷ dot_of B B ∷ dot_of A B ∷ []) tt a b (product A B line) e

apart_of : (A B : Point) → is_null A ≡ false → is_null B ≡ false → is_same_direction A B ≡ false →
    is_antipodal A B ≡ false → is_parallel A B ≡ false
unfolding is_same_direction is_antipodal
apart_of A B a b s o = go (is_parallel A B) refl s o
  where
    level : (g : Sign) → sign_of (dot_of A B) ≡ g → is_positive g ≡ false → is_negative g ≡ false → dot_of A B ≡ pos 0
    level negative q s o = absurd (true≢false o)
    level nought q s o = allows_is eq (dot_of A B) (rw q tt)
    level positive q s o = absurd (true≢false s)

    go : (p : Bool) → is_parallel A B ≡ p → (p && is_positive (sign_of (dot_of A B))) ≡ false →
        (p && is_negative (sign_of (dot_of A B))) ≡ false → p ≡ false
    go false e s o = refl
    go true e s o = absurd (squares A B (null→origin (cross_of A B) (subst T (sym e) tt)) (some_positive A a)
        (some_positive B b) (level (sign_of (dot_of A B)) refl s o))

module _ (limit : ℕ) (vs : List ℤ) (e : polygon_check limit vs ≡ Ok tt) where
  shape : (null_check vs then same_check vs then antipodal_check vs) ≡ Ok tt
  unfolding polygon_check
  shape = (then_passed (beyond_check limit vs) _ (then_passed (list_check vs) _ e).1).1

  some_at : (i : ℕ) → i < vertices_count vs → is_null (vertex_at vs i) ≡ false
  unfolding null_check
  some_at i h = let test : ℕ → Bool = λ i. is_null (vertex_at vs i) in
      first_none test 0 (vertices_count vs) i (fails_at_passed VertexNull (first_from test 0 (vertices_count vs))
      (then_passed (null_check vs) _ shape).0) (omega arith) (omega arith)

  pub edges_apart : (i : ℕ) → i < vertices_count vs → is_parallel (start_of vs i) (end_of vs i) ≡ false
  unfolding same_check antipodal_check
  edges_apart i h =
      let n = vertices_count vs in
      let same : ℕ → Bool = λ i. is_same_direction (start_of vs i) (end_of vs i) in
      let far : ℕ → Bool = λ i. is_antipodal (start_of vs i) (end_of vs i) in
      let rest = then_passed (same_check vs) _ (then_passed (null_check vs) _ shape).1 in
      apart_of (start_of vs i) (end_of vs i) (some_at i h) (some_at (next_of n i) (next_below n i h))
      (first_none same 0 n i (fails_at_passed SameEnds (first_from same 0 n) rest.0) (omega arith) (omega arith))
      (first_none far 0 n i (fails_at_passed AntipodalEnds (first_from far 0 n) rest.1) (omega arith) (omega arith))

  -- ---- edge i and the later edge j
  module _ {i j : ℕ} (low : i < j) (high : j < vertices_count vs) where
    pub next_is : j ≡ i + 1 → end_of vs i ≡ start_of vs j
    next_is q = next_start vs i j (sym q) high

    pub last_is : i ≡ 0 → j + 1 ≡ vertices_count vs → end_of vs j ≡ start_of vs i
    last_is z q = ap (vertex_at vs) (next_last (vertices_count vs) j q ∙ sym z)

    first-apart : is_parallel (start_of vs i) (end_of vs i) ≡ false
    first-apart = edges_apart i (omega arith)

    pub next_decided : j ≡ i + 1 → DecidedBeyond (start_of vs i) (end_of vs i) (end_of vs j)
    next_decided q = beyond_decided (start_of vs i) (end_of vs i) (end_of vs j) first-apart
        (subst (λ S. is_parallel S (end_of vs j) ≡ false) (sym (next_is q)) (edges_apart j high))

    pub last_decided : i ≡ 0 → j + 1 ≡ vertices_count vs → DecidedBeyond (start_of vs j) (start_of vs i) (end_of vs i)
    last_decided z q = beyond_decided (start_of vs j) (start_of vs i) (end_of vs i)
        (subst (λ S. is_parallel (start_of vs j) S ≡ false) (last_is z q) (edges_apart j high)) first-apart

    pub pair_decided : DecidedShared (start_of vs i) (end_of vs i) (start_of vs j) (end_of vs j)
    pair_decided =
        shared_decided (start_of vs i) (end_of vs i) (start_of vs j) (end_of vs j) first-apart (edges_apart j high)

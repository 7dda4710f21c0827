-- The claims of specs/Claims on two rings. Proved, in order: same_ring_told, place_lowest.
use mathlib.Core.Path.{◌≡◌, refl, sym, ◌∙◌, ap}
use mathlib.Core.Bool.{Bool, true, false, not, cond, true≢false}
use mathlib.Core.List.{List}
use Prim.Native.Nat.{ℕ, min, ◌<◌}
use native.Mathlib.Omega.{arith}
use borrow.Author.Tests.{eqb-true, eq-eqb, not-true, not-false}
use lib.Dec.{eqb}
use lib.IntN.{ℤ}
use Rattle.sphere.specs.Direction.{is_same_direction}
use Rattle.std.specs.declared.option.Option.{Option}
use Rattle.std.specs.declared.option.Option.TheVariants.{None, Some}
use Rattle.answer.specs.Search.{first_from}
use Rattle.answer.proofs.Laws.First.{none_first, first_found}
use Rattle.answer.proofs.Laws.Search.{first_none}
use Rattle.polygon.specs.Vertices.{vertices_count, vertex_at}
use Rattle.compare.specs.declared.ring.Placed.{Placed}
use Rattle.compare.specs.declared.ring.Placed.TheVariants.{Apart, Forward, Backward}
use Rattle.compare.specs.Ring.{Meets, SameRing, forward, backward, met_at, differs_at}
use Rattle.compare.specs.Ring.{is_nowhere, is_meeting, first_meeting, or_else, difference_of, placed_by}
use Rattle.compare.specs.Ring.{placed_of, way_of}
use Rattle.compare.specs.Claims.{SameRingTold, LowestMeeting, Agree, FirstDifference, PlacedLowest, PlaceLowest}

pub nowhere : (f : Option ℕ) → is_nowhere f ≡ true → f ≡ None
nowhere None e = refl
nowhere (Some k) e = absurd (true≢false (sym e))

-- ---- the test says just that all vertices meet
module _ (ls rs : List ℤ) (size : vertices_count rs ≡ vertices_count ls) (back : Bool) (k : ℕ) where
  abbrev other : ℕ → Bool
  other = differs_at ls rs (met_at back (vertices_count ls) k)

  meeting→meets : is_meeting ls rs back k ≡ true → Meets ls rs (met_at back (vertices_count ls) k)
  unfolding is_meeting
  meeting→meets e = record {
    count = size;
    each = λ i h. not-false (is_same_direction (vertex_at ls i) (vertex_at rs (met_at back (vertices_count ls) k i)))
        (first_none other 0 (vertices_count ls) i (nowhere _ e) (omega arith) (omega arith));
  }

  meets→meeting : Meets ls rs (met_at back (vertices_count ls) k) → is_meeting ls rs back k ≡ true
  unfolding is_meeting
  meets→meeting m =
      ap is_nowhere (none_first other 0 (vertices_count ls) (λ i from below. ap not (m.each i (omega arith))))

module _ (ls rs : List ℤ) where
  -- ---- a search that found a vertex, or none
  found→lowest : vertices_count rs ≡ vertices_count ls → (back : Bool) (k : ℕ) → first_meeting ls rs back ≡ Some k →
      LowestMeeting ls rs (met_at back (vertices_count ls)) k
  unfolding first_meeting
  found→lowest size back k e = let l = first_found (is_meeting ls rs back) 0 (vertices_count ls) k e in record {
    below = omega (arith, l.below);
    meets = meeting→meets ls rs size back k l.holds;
    before = λ j h m.
        true≢false (sym (meets→meeting ls rs size back j m) ∙ l.before j (omega arith) h);
  }

  none→apart : (back : Bool) → first_meeting ls rs back ≡ None → (k : ℕ) → k < vertices_count ls →
      Meets ls rs (met_at back (vertices_count ls) k) → ⊥
  unfolding first_meeting
  none→apart back e k h m =
      true≢false
      (sym (meets→meeting ls rs m.count back k m)
      ∙ first_none (is_meeting ls rs back) 0 (vertices_count ls) k e (omega arith) (omega arith))

  -- ---- the first difference
  abbrev size : ℕ
  size = min (vertices_count ls) (vertices_count rs)

  alike : (j : ℕ) → j < size → differs_at ls rs (λ i. i) j ≡ false → Agree ls rs j
  alike j h e = record {
    in_left = omega arith;
    in_right = omega arith;
    same = not-false (is_same_direction (vertex_at ls j) (vertex_at rs j)) e;
  }

  first_difference : FirstDifference ls rs (difference_of ls rs)
  unfolding difference_of
  first_difference = go (first_from (differs_at ls rs (λ i. i)) 0 size) refl
    where
      go : (f : Option ℕ) → first_from (differs_at ls rs (λ i. i)) 0 size ≡ f → FirstDifference ls rs (or_else f size)
      go (Some i) e = let l = first_found (differs_at ls rs (λ i. i)) 0 size i e in record {
        here = λ a. true≢false (sym a.same ∙ not-true (is_same_direction (vertex_at ls i) (vertex_at rs i)) l.holds);
        before = λ j h. alike j (omega (arith, l.below)) (l.before j (omega arith) h);
      }
      go None e = record {
        here = λ a. let l = a.in_left in let r = a.in_right in omega arith;
        before = λ j h. alike j h (first_none (differs_at ls rs (λ i. i)) 0 size j e (omega arith) (omega arith));
      }

  -- ---- the claims
  by_found : vertices_count rs ≡ vertices_count ls → (f g : Option ℕ) → first_meeting ls rs false ≡ f →
      first_meeting ls rs true ≡ g → PlacedLowest ls rs (placed_by f g (difference_of ls rs))
  unfolding met_at
  by_found n (Some k) g e h = found→lowest n false k e
  by_found n None (Some k) e h = (found→lowest n true k h, none→apart false e)
  by_found _ None None e h = first_difference

  lowest : PlacedLowest ls rs (placed_of ls rs)
  unfolding placed_of
  lowest = go (eqb (vertices_count rs) (vertices_count ls)) refl
    where
      go : (b : Bool) → eqb (vertices_count rs) (vertices_count ls) ≡ b →
          PlacedLowest ls rs (cond b
          (placed_by (first_meeting ls rs false) (first_meeting ls rs true) (difference_of ls rs))
          (Apart (difference_of ls rs)))
      go true e = by_found (eqb-true (vertices_count rs) (vertices_count ls) e) _ _ refl refl
      go false e = first_difference

  -- What is placed forward or backward is the same ring.
  way→same : (way_of (placed_of ls rs) ≡ 0 → ⊥) → SameRing ls rs
  way→same = go (placed_of ls rs) lowest
    where
      go : (p : Placed) → PlacedLowest ls rs p → (way_of p ≡ 0 → ⊥) → SameRing ls rs
      go (Forward k) l w = forward k l.below l.meets
      go (Backward k) l w = backward k l.0.below l.0.meets
      go (Apart i) l w = absurd (w refl)

  -- A ring that meets is found.
  found_by : (f g : Option ℕ) (i : ℕ) → (f ≡ None → g ≡ None → ⊥) → way_of (placed_by f g i) ≡ 0 → ⊥
  found_by (Some k) g i h e = omega arith
  found_by None (Some k) i h e = omega arith
  found_by None None i h e = h refl refl

  by_size : vertices_count rs ≡ vertices_count ls →
      (first_meeting ls rs false ≡ None → first_meeting ls rs true ≡ None → ⊥) → way_of (placed_of ls rs) ≡ 0 → ⊥
  unfolding placed_of
  by_size size h e =
      found_by (first_meeting ls rs false) (first_meeting ls rs true) (difference_of ls rs) h
      (rw (eq-eqb (vertices_count rs) (vertices_count ls) size) at e)

  same→way : SameRing ls rs → way_of (placed_of ls rs) ≡ 0 → ⊥
  unfolding met_at
  same→way (forward k low m) = by_size m.count (λ f g. none→apart false f k low m)
  same→way (backward k low m) = by_size m.count (λ f g. none→apart true g k low m)

pub place_lowest : PlaceLowest
place_lowest ls rs = lowest ls rs

pub same_ring_told : SameRingTold
same_ring_told ls rs = record { same→way = same→way ls rs; way→same = way→same ls rs }

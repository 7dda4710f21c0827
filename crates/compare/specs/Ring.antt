-- Document 02, P11: two rings, by the directions of their vertices: 'the same ring may start elsewhere or run
-- backwards'. A ring is a list of vertices (polygon/specs/Vertices), the left one ls and the right one rs. Defined, in
-- order: round_of, forward_at, backward_at, Meets, SameRing (what 'the same ring' means); met_at, differs_at, is_nowhere,
-- is_meeting, first_meeting, or_else, difference_of, placed_by, placed_of (the search for it); way_of, place_of;
-- ring_size, ring_of, Sound (a ring in bytes, as the code has it). That the search finds just the same rings, and the
-- lowest place: Claims.SameRingTold, PlaceLowest.
use Rattle.std.specs.Prelude.{◌≡◌, Bool, true, false, not, cond, List, ℕ, ◌+◌, ◌*◌, ◌/◌, ◌-◌, ◌≤◌, ◌<◌, eqb, ltb, min, ℤ, length}
use Rattle.sphere.specs.Point.{fine}
use Rattle.sphere.specs.Direction.{is_same_direction}
use Rattle.big_endian.specs.Bytes.{ints_at}
use Rattle.std.specs.declared.option.Option.{Option}
use Rattle.std.specs.declared.option.Option.TheVariants.{None, Some}
use Rattle.answer.specs.Search.{first_from}
use Rattle.polygon.specs.Vertices.{vertices_count, vertex_at}
use Rattle.polygon.specs.Accepted.{Gridded}
use Rattle.compare.specs.declared.ring.Placed.{Placed}
use Rattle.compare.specs.declared.ring.Placed.TheVariants.{Apart, Forward, Backward}

-- ---- the same ring

-- The number j, below 2 n, of n that go round.
unfoldable pub round_of : ℕ → ℕ → ℕ
round_of n j = cond (ltb j n) j (j - n)

-- The right ring's vertex that meets the left's vertex i, where its vertex k meets the left's vertex 0: of n that run
-- the same way, or backwards.
abbrev pub forward_at : ℕ → ℕ → ℕ → ℕ
forward_at n k i = round_of n (k + i)

abbrev pub backward_at : ℕ → ℕ → ℕ → ℕ
backward_at n k i = round_of n (k + (n - i))

-- Each vertex of the left ring has the direction of the right's that `at` names for it, and there are no others.
pub record Meets (ls rs : List ℤ) (at : ℕ → ℕ) : Type 0 where
  pub count : vertices_count rs ≡ vertices_count ls
  pub each : (i : ℕ) → i < vertices_count ls → is_same_direction (vertex_at ls i) (vertex_at rs (at i)) ≡ true

pub data SameRing (ls rs : List ℤ) : Type 0 where
  forward : (k : ℕ) → k < vertices_count ls → Meets ls rs (forward_at (vertices_count ls) k) → SameRing ls rs
  backward : (k : ℕ) → k < vertices_count ls → Meets ls rs (backward_at (vertices_count ls) k) → SameRing ls rs

-- ---- the search for it

unfoldable pub met_at : Bool → ℕ → ℕ → ℕ → ℕ
met_at back n k i = cond back (backward_at n k i) (forward_at n k i)

-- Vertex i of the left ring differs from the right's that it has to meet.
abbrev pub differs_at : List ℤ → List ℤ → (ℕ → ℕ) → ℕ → Bool
differs_at ls rs at i = not (is_same_direction (vertex_at ls i) (vertex_at rs (at i)))

abbrev pub is_nowhere : Option ℕ → Bool
is_nowhere None = true
is_nowhere (Some place) = false

-- Where the right ring's vertex k meets the left's vertex 0, all others meet too.
unfoldable pub is_meeting : List ℤ → List ℤ → Bool → ℕ → Bool
is_meeting ls rs back k =
    is_nowhere (first_from (differs_at ls rs (met_at back (vertices_count ls) k)) 0 (vertices_count ls))

-- The lowest such vertex of the right ring.
unfoldable pub first_meeting : List ℤ → List ℤ → Bool → Option ℕ
first_meeting ls rs back = first_from (is_meeting ls rs back) 0 (vertices_count ls)

abbrev pub or_else : Option ℕ → ℕ → ℕ
or_else None n = n
or_else (Some place) n = place

-- The first vertex number whose points differ, a missing one included.
unfoldable pub difference_of : List ℤ → List ℤ → ℕ
difference_of ls rs =
    let n = min (vertices_count ls) (vertices_count rs) in or_else (first_from (differs_at ls rs (λ i. i)) 0 n) n

-- The lowest forward one, else the lowest backward one, else the first difference.
abbrev pub placed_by : Option ℕ → Option ℕ → ℕ → Placed
placed_by (Some k) back i = Forward k
placed_by None (Some k) i = Backward k
placed_by None None i = Apart i

unfoldable pub placed_of : List ℤ → List ℤ → Placed
placed_of ls rs =
    cond (eqb (vertices_count rs) (vertices_count ls))
    (placed_by (first_meeting ls rs false) (first_meeting ls rs true) (difference_of ls rs))
    (Apart (difference_of ls rs))

-- ---- the way and the place of it: the one meaning of `Placed`

abbrev pub way_of : Placed → ℕ
way_of (Apart place) = 0
way_of (Forward place) = 1
way_of (Backward place) = 2

abbrev pub place_of : Placed → ℕ
place_of (Apart place) = place
place_of (Forward place) = place
place_of (Backward place) = place

-- ---- a ring in bytes, twelve to a vertex

abbrev pub ring_size : List ℕ → ℕ
ring_size bytes = length bytes / 12

abbrev pub ring_of : List ℕ → List ℤ
ring_of bytes = ints_at bytes 0 (ring_size bytes * 3)

-- What comparing wants of one: an accepted sheet's ring has it, on either grid.
pub record Sound (bytes : List ℕ) : Type 0 where
  pub few : ring_size bytes ≤ 4096
  pub gridded : Gridded fine (ring_of bytes)

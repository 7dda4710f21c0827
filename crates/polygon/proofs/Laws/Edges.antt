-- A walk over the edges. Proved, in order: tested; next_below, next_start, EdgeStart (the vertex that it carries),
-- edge_start_step, start_within, end_within, ends_within.
use mathlib.Core.Path.{◌≡◌, refl, ◌∙◌}
use mathlib.Core.Bool.{Bool, true, false, cond}
use mathlib.Core.List.{List}
use Prim.Native.Nat.{ℕ, ◌+◌, ◌<◌}
use native.Mathlib.Omega.{arith}
use borrow.Author.Tests.{ltb-true, lt-ltb}
use lib.Dec.{ltb}
use lib.IntN.{ℤ}
use Rattle.sphere.specs.declared.point.Point.{Point}
use Rattle.sphere.specs.Point.{Within}
use Rattle.polygon.specs.Vertices.{vertices_count, vertex_at, next_of, start_of, end_of}
use Rattle.polygon.specs.Accepted.{Gridded}

-- ---- what a test that a loop made says of a vertex of the list

pub tested : (test : Point → Bool) {p q : Point} {r t : Bool} → r ≡ test p → p ≡ q → r ≡ t → test q ≡ t
tested test e p r = cc

-- ---- a walk over the edges

pub next_below : (n i : ℕ) → i < n → next_of n i < n
unfolding next_of
next_below n i h = go (ltb (i + 1) n) refl
  where
    go : (t : Bool) → ltb (i + 1) n ≡ t → cond t (i + 1) 0 < n
    go true t = ltb-true (i + 1) n t
    go false t = omega arith

-- The end of an edge is the start of the next one.
pub next_start : (vs : List ℤ) (i j : ℕ) → i + 1 ≡ j → j < vertices_count vs → end_of vs i ≡ start_of vs j
unfolding next_of
next_start vs i j e h = rw (e, lt-ltb j (vertices_count vs) h)

-- The vertex that the walk carries: a is vertex i, where there is one, and so the start of edge i.
pub record EdgeStart (vs : List ℤ) (i : ℕ) (a : Point) : Type 0 where
  pub start : i < vertices_count vs → a ≡ vertex_at vs i

pub edge_start_step : {vs : List ℤ} (i : ℕ) {a : Point} → a ≡ end_of vs i → EdgeStart vs (i + 1) a
edge_start_step {vs} i e = record { start = λ h. e ∙ next_start vs i (i + 1) refl h }

-- Both ends of an edge are within the grid.
module _ {limit : ℕ} {vs : List ℤ} {i : ℕ} (g : Gridded limit vs) (h : i < vertices_count vs) where
  pub start_within : {a : Point} → EdgeStart vs i a → Within limit a
  start_within a = rw (a.start h) (g.each i h)

  pub end_within : {b : Point} → b ≡ end_of vs i → Within limit b
  end_within b = rw b (g.each (next_of (vertices_count vs) i) (next_below (vertices_count vs) i h))

  pub ends_within : {a b : Point} → a ≡ start_of vs i → b ≡ end_of vs i → Within limit a × Within limit b
  ends_within a b = (start_within (record { start = λ h. a }), end_within b)

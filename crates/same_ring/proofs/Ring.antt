-- P11's same ring is a redrawing: lengthened, then started elsewhere or, backwards, reversed too. Proved, in order:
-- cut_front, cut_back, round_low, round_high; started_vertex, started_count; reversed_whole; ring_forward,
-- ring_backward, ring_redrawn.
use mathlib.Core.Path.{◌≡◌, refl, sym, ◌∙◌, ap, ap₂}
use mathlib.Core.Bool.{Bool, true, false}
use mathlib.Core.List.{List, ◌++◌}
use Prim.Native.Nat.{ℕ, zero, suc, ◌+◌, ◌*◌, ◌-◌, ◌%◌, ◌/◌, ◌≤◌, ◌<◌}
use native.Mathlib.Omega.{arith}
use borrow.Author.Tests.{ltb-true, ltb-false, lt-ltb, le-ltb}
use lib.Dec.{ltb}
use lib.IntN.{ℤ, pos}
use lib.ListN.{length, get_or, take, drop, length-drop, length-take, length-append, get_or-append}
use lib.Seq.{get_or-append-add, get_or-drop, get_or-take}
use Rattle.sphere.specs.Direction.{is_same_direction}
use Rattle.polygon.specs.Vertices.{vertices_count, vertex_at, last_to, reversed_of}
use Rattle.polygon.proofs.Laws.Reversed.{reversed_count, reversed_vertex}
use Rattle.compare.specs.Ring.{round_of, forward_at, backward_at, Meets, SameRing, forward, backward}
use Rattle.redraw.specs.Redraw.{started_at, Lengthened, Redrawn, started, reversed, lengthened, undone, next}

-- ---- a list cut at m
module _ (vs : List ℤ) (m : ℕ) (d : ℤ) where
  cut_front : (j l : ℕ) → m + j ≡ l → l < length vs → get_or (drop m vs ++ take m vs) j d ≡ get_or vs l d
  cut_front j l e h =
      get_or-append (drop m vs) (take m vs) d j (rw (length-drop m vs) (omega arith)) ∙ get_or-drop m vs j d
      ∙ ap (λ l. get_or vs l d) e

  cut_back : (j l : ℕ) → m + j ≡ length vs + l → l < m → m ≤ length vs →
      get_or (drop m vs ++ take m vs) j d ≡ get_or vs l d
  cut_back j l e h k =
      ap (λ j. get_or (drop m vs ++ take m vs) j d) same ∙ get_or-append-add (drop m vs) (take m vs) l d
      ∙ get_or-take m vs l d h
    where
      same : j ≡ length (drop m vs) + l
      same = rw (length-drop m vs) (omega arith)

round_low : (n j : ℕ) → j < n → round_of n j ≡ j
unfolding round_of
round_low n j h = rw (lt-ltb j n h)

round_high : (n j : ℕ) → n ≤ j → round_of n j ≡ j - n
unfolding round_of
round_high n j h = rw (le-ltb j n h)

module _ (vs : List ℤ) (k : ℕ) (whole : length vs % 3 ≡ 0) (low : k ≤ vertices_count vs) where
  started_low : (i : ℕ) → k + i < vertices_count vs → vertex_at (started_at vs k) i ≡ vertex_at vs (k + i)
  unfolding started_at vertex_at
  started_low i h = λ t. record {
    x = cut_front vs (k * 3) (pos 0) (i * 3) ((k + i) * 3) (omega arith) (omega arith) t;
    y = cut_front vs (k * 3) (pos 0) (i * 3 + 1) ((k + i) * 3 + 1) (omega arith) (omega arith) t;
    z = cut_front vs (k * 3) (pos 0) (i * 3 + 2) ((k + i) * 3 + 2) (omega arith) (omega arith) t;
  }

  started_high : (i l : ℕ) → k + i ≡ vertices_count vs + l → l < k → vertex_at (started_at vs k) i ≡ vertex_at vs l
  unfolding started_at vertex_at
  started_high i l e h = λ t. record {
    x = cut_back vs (k * 3) (pos 0) (i * 3) (l * 3) (omega arith) (omega arith) (omega arith) t;
    y = cut_back vs (k * 3) (pos 0) (i * 3 + 1) (l * 3 + 1) (omega arith) (omega arith) (omega arith) t;
    z = cut_back vs (k * 3) (pos 0) (i * 3 + 2) (l * 3 + 2) (omega arith) (omega arith) (omega arith) t;
  }

  pub started_vertex : (i : ℕ) → i < vertices_count vs →
      vertex_at (started_at vs k) i ≡ vertex_at vs (round_of (vertices_count vs) (k + i))
  started_vertex i h = go (ltb (k + i) (vertices_count vs)) refl
    where
      go : (b : Bool) → ltb (k + i) (vertices_count vs) ≡ b →
          vertex_at (started_at vs k) i ≡ vertex_at vs (round_of (vertices_count vs) (k + i))
      go true e = let l = ltb-true (k + i) (vertices_count vs) e in
          started_low i l ∙ ap (vertex_at vs) (sym (round_low (vertices_count vs) (k + i) l))
      go false e = let l = ltb-false (k + i) (vertices_count vs) e in
          started_high i (k + i - vertices_count vs) (omega arith) (omega arith)
          ∙ ap (vertex_at vs) (sym (round_high (vertices_count vs) (k + i) l))

  pub started_count : vertices_count (started_at vs k) ≡ vertices_count vs
  unfolding started_at
  started_count = ap (λ n. n / 3) (length-append (drop (k * 3) vs) (take (k * 3) vs)
      ∙ ap₂ ◌+◌ (length-drop (k * 3) vs) (length-take (k * 3) vs) ∙ omega arith)

-- ---- the reversed list is whole
last_whole : (vs : List ℤ) (k : ℕ) → length (last_to vs k) % 3 ≡ 0
unfolding last_to
last_whole vs zero = refl
last_whole vs (suc k) = let h = last_whole vs k in omega arith

reversed_whole : (vs : List ℤ) → length (reversed_of vs) % 3 ≡ 0
unfolding reversed_of
reversed_whole vs = last_whole vs (vertices_count vs)

-- ---- forward: the left ring is the right one, started at k and lengthened; backward: the right one reversed
module _ (ls rs : List ℤ) (k : ℕ) (low : k < vertices_count ls) (whole : length rs % 3 ≡ 0) where
  ring_forward : Meets ls rs (forward_at (vertices_count ls) k) → Redrawn ls rs
  ring_forward m = next (lengthened l) (undone (started k whole below))
    where
      below : k ≤ vertices_count rs
      below = omega (arith, m.count)

      l : Lengthened ls (started_at rs k)
      l = record {
        count = started_count rs k whole below ∙ m.count;
        each = λ i h. ap (is_same_direction (vertex_at ls i)) (started_vertex rs k whole below i (omega (arith, m.count))
            ∙ ap (λ n. vertex_at rs (round_of n (k + i))) m.count) ∙ m.each i h;
      }

  ring_backward : Meets ls rs (backward_at (vertices_count ls) k) → Redrawn ls rs
  ring_backward m = next (lengthened l) (next (undone (started c (reversed_whole rs) below)) (undone reversed))
    where
      n : ℕ
      n = vertices_count ls

      us : List ℤ
      us = reversed_of rs

      c : ℕ
      c = n - suc k

      size : vertices_count us ≡ n
      size = reversed_count rs ∙ m.count

      below : c ≤ vertices_count us
      below = omega (arith, size)

      -- vertex i of the reversed list that starts at c
      same : (i : ℕ) → i < n → vertex_at (started_at us c) i ≡ vertex_at rs (backward_at n k i)
      same i h = started_vertex us c (reversed_whole rs) below i (omega (arith, size))
          ∙ ap (λ n. vertex_at us (round_of n (c + i))) size ∙ go (ltb (c + i) n) refl
        where
          go : (b : Bool) → ltb (c + i) n ≡ b → vertex_at us (round_of n (c + i)) ≡ vertex_at rs (round_of n (k + (n - i)))
          go true e =
              let l = ltb-true (c + i) n e in
              ap (vertex_at us) (round_low n (c + i) l) ∙ reversed_vertex rs (c + i) (k - i) (omega (arith, m.count))
              ∙ ap (vertex_at rs) (sym (round_high n (k + (n - i)) (omega arith) ∙ omega arith))
          go false e =
              let l = ltb-false (c + i) n e in
              ap (vertex_at us) (round_high n (c + i) l)
              ∙ reversed_vertex rs (c + i - n) (k + (n - i)) (omega (arith, m.count))
              ∙ ap (vertex_at rs) (sym (round_low n (k + (n - i)) (omega arith)))

      l : Lengthened ls (started_at us c)
      l = record {
        count = started_count us c (reversed_whole rs) below ∙ size;
        each = λ i h. ap (is_same_direction (vertex_at ls i)) (same i h) ∙ m.each i h;
      }

pub ring_redrawn : (ls rs : List ℤ) → length rs % 3 ≡ 0 → SameRing ls rs → Redrawn ls rs
ring_redrawn ls rs whole (forward k low m) = ring_forward ls rs k low whole m
ring_redrawn ls rs whole (backward k low m) = ring_backward ls rs k low whole m

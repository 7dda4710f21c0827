-- Edges near the plane of an arc. Defined: Inner. Proved, in order: inner, inner_end (the edges that do not go back to
-- vertex 0); near_from (where a scan stops), next_sided (where the next one begins).
use mathlib.Core.Path.{◌≡◌, refl, sym, ◌∙◌, subst, ap}
use mathlib.Core.Logic.{⊎_elim}
use mathlib.Core.Bool.{Bool, true, false, not, cond, true≢false}
use mathlib.Core.List.{List}
use Prim.Native.Nat.{ℕ, ◌+◌, ◌-◌, ◌≤◌, ◌<◌}
use native.Mathlib.Nat.{eq-or-lt_of_le}
use native.Mathlib.Omega.{arith}
use borrow.Author.Tests.{ltb-true, ltb-false, lt-ltb}
use lib.Dec.{ltb}
use lib.IntN.{ℤ}
use Rattle.integers.specs.Sign.{sign_of}
use Rattle.sphere.specs.Orientation.{orientation_of}
use Rattle.polygon.specs.Vertices.{vertices_count, vertex_at, next_of}
use Rattle.polygon.proofs.Laws.Edges.{next_below, edge_start_step}
use Rattle.search.specs.declared.arc.Arc.{Arc}
use Rattle.search.specs.declared.scan.Near.{Near}
use Rattle.search.specs.Arc.{SoundArc}
use Rattle.search.specs.Scan.{stop_from, Sided, is_near, last_inner}
use Rattle.search.specs.Scan.{is_one_sided, EndSides, NearFrom}
use Rattle.search.proofs.Laws.Skipped.{next_start}
use Rattle.search.proofs.Laws.Arc.{arc_side}
use Rattle.search.proofs.Laws.Scanned.{Stopped, stopped}

-- ---- the edges that do not go back to vertex 0
pub record Inner (n to last : ℕ) : Type 0 where
  pub below : last < n
  pub before : last ≤ to
  pub near : to ≤ last + 1
  pub closing : last < to → last + 1 ≡ n

pub inner : (n to : ℕ) → 0 < n → to ≤ n → Inner n to (last_inner n to)
unfolding last_inner
inner n to h k = go (ltb to n) refl
  where
    go : (t : Bool) → ltb to n ≡ t → Inner n to (cond t to (n - 1))
    go true e = record {
      below = ltb-true to n e;
      before = omega arith;
      near = omega arith;
      closing = λ l. absurd (omega (arith, l));
    }
    go false e =
        let l = ltb-false to n e in
        record { below = omega arith; before = omega arith; near = omega arith; closing = λ m. omega (arith, h) }

-- where an edge before `to` ends
pub inner_end : {n to last : ℕ} (i : ℕ) → Inner n to last → i < to → next_of (last + 1) i ≡ next_of n i
unfolding next_of
inner_end {n} {to} {last} i s h = ⊎_elim
    (λ e. let n-is : last + 1 ≡ n = s.closing (omega (arith, e, h)) in rw n-is)
    (λ l. rw (lt-ltb (i + 1) (last + 1) (omega (arith, l)), lt-ltb (i + 1) n (omega (arith, l, s.below))))
    (eq-or-lt_of_le {n = i} {m = last} (omega (arith, h, s.near)))

-- ---- by an arc
not_near : (b : Bool) → not b ≡ false → b ≡ true
not_near true e = refl
not_near false e = absurd (true≢false e)

module _ (vs : List ℤ) {arc : Arc} (aimed : SoundArc arc) where
  far_one_sided : (j : ℕ) → j + 1 < vertices_count vs → is_near vs arc.plane.normal j ≡ false →
      is_one_sided vs arc.from arc.to j ≡ true
  far_one_sided j h e =
      rw (next_start vs j (j + 1) refl h, ← arc_side aimed (vertex_at vs j), ← arc_side aimed (vertex_at vs (j + 1)))
      (not_near _ e)

  module _ {i to last : ℕ} (near : Near) (s : Inner (vertices_count vs) to last) (h : i ≤ to) (k : to ≤ vertices_count vs)
      (e : near.edge ≡ stop_from (is_near vs arc.plane.normal) i (last - i)) where
    stop : Stopped (is_near vs arc.plane.normal) i last near.edge
    stop = stopped _ i last e

    end-sides : Sided vs arc.plane.normal near.edge near.start →
        Sided vs arc.plane.normal (next_of (last + 1) near.edge) near.end → near.edge < to →
        EndSides vs arc.from arc.to near
    end-sides start end l =
        let n = vertices_count vs in
        let below : near.edge < n = omega (arith, l, k) in
        let at = subst (λ j. Sided vs arc.plane.normal j near.end) (inner_end near.edge s l) end in
        record {
          below = below;
          start = start.known below ∙ ap sign_of (arc_side aimed _);
          end = at.known (next_below n near.edge below) ∙ ap sign_of (arc_side aimed _);
        }

    pub near_from : Sided vs arc.plane.normal near.edge near.start →
        Sided vs arc.plane.normal (next_of (last + 1) near.edge) near.end →
        NearFrom vs arc.from arc.to i to near
    near_from start end = record {
      after = stop.after;
      before = omega (arith, stop.before, stop.after, s.before, h);
      passed = λ j l m. far_one_sided j (omega (arith, l, m, stop.before, stop.after, s.below))
          (stop.all j l (omega (arith, l, m)));
      ends = end-sides start end;
    }

-- The side of an edge's end is that of the next edge's start.
pub next_sided : {vs : List ℤ} {arc : Arc} {near : Near} → SoundArc arc → EndSides vs arc.from arc.to near →
    Sided vs arc.plane.normal (near.edge + 1) near.end
next_sided {vs} {arc} {near} aimed e = record {
  known = λ h. e.end
      ∙ ap (λ p. sign_of (orientation_of arc.from arc.to p)) ((edge_start_step near.edge refl).start h)
      ∙ ap sign_of (sym (arc_side aimed _));
}

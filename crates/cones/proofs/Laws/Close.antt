-- The entries whose edges span the query's azimuth. Proved, in order: near_complete (what is kept of a list that is
-- complete for an azimuth is complete for the query); arc_accepted; told_way (an edge of which azimuth and side tell).
use mathlib.Core.Path.{◌≡◌, sym, ◌∙◌, ap, subst}
use mathlib.Core.Bool.{Bool, true, false, cond}
use mathlib.Core.List.{List}
use Prim.Native.Nat.{ℕ, ◌≤◌, ◌<◌}
use native.Mathlib.Omega.{arith}
use lib.IntN.{ℤ}
use Rattle.integers.specs.Sign.{positive, negative, sign_of, is_zero, unit_of}
use Rattle.sphere.specs.declared.point.Point.{Point}
use Rattle.sphere.specs.declared.point.Grid.{Grid}
use Rattle.sphere.specs.Point.{limit_of, Within}
use Rattle.sphere.specs.Orientation.{orientation_of}
use Rattle.sphere.specs.OnEdge.{is_on_edge}
use Rattle.sphere.specs.Plane.{plane_of}
use Rattle.polygon.specs.Checks.{accept_check}
use Rattle.polygon.specs.Vertices.{vertices_count, start_of, end_of}
use Rattle.polygon.proofs.Laws.Checks.{accept_passed}
use Rattle.search.specs.declared.arc.Arc.{Arc}
use Rattle.search.specs.declared.walk.EdgeTest.TheVariants.{Way}
use Rattle.search.specs.declared.walk.Tally.TheVariants.{Crossed}
use Rattle.search.specs.Arc.{arc_of, AcceptedArc}
use Rattle.search.specs.Walk.{tally_from}
use Rattle.search.proofs.Laws.Arc.{arc_sound}
use Rattle.search.proofs.Laws.Tally.{test_way}
use Rattle.azimuths.specs.Sectors.{Idle, is_missed_at, MissedIn, is_inside, turns_left, way_by, Telling}
use Rattle.cones.specs.Cones.{Covers, none, pass, keep, Complete}
use Rattle.cones.specs.Lists.{Gathered}
use Rattle.cones.proofs.Laws.Covers.{kept_covers}
use Rattle.std.specs.declared.result.Result.TheVariants.{Ok}

covers_below : {I : ℕ → Type 0} {l : List ℕ} {a n i b : ℕ} → i ≤ n → Covers I l a i b →
    Covers (λ j. (j < n) × I j) l a i b
covers_below h none = none
covers_below h (pass c p) = pass (covers_below (omega arith) c) (omega arith, p)
covers_below h (keep c p) = keep (covers_below (omega arith) c) p

pub near_complete : {vs : List ℤ} {X P : Point} {sectors : List ℕ} {k : ℕ} → Telling vs X P sectors k →
    {l m : List ℕ} {from to r : ℕ} → Complete (MissedIn sectors k k) (vertices_count vs) l from to →
    Gathered (is_missed_at sectors k) l m from to r → Complete (Idle vs X P) (vertices_count vs) m 0 r
near_complete {vs} {X} {P} {sectors} {k} telling all g = record {
  some = omega arith;
  within = g.within;
  covers =
      kept_covers (λ j h. telling.idle j h.0 (h.1 k (omega arith) (omega arith))) (vertices_count vs) telling.idle
      (omega arith) g.kept (covers_below (omega arith) all.covers);
}

-- ---- the arc, made again
pub arc_accepted : {vs : List ℤ} (g : Grid) (X P : Point) (by-boxes : Bool) {arc : Arc} →
    accept_check (limit_of g) vs X ≡ Ok tt → Within (limit_of g) P → arc ≡ arc_of g X P by-boxes → AcceptedArc vs arc
unfolding arc_of plane_of
arc_accepted {vs} g X P by-boxes accepted query e = subst (AcceptedArc vs) (sym e) (record {
  accepted = accepted;
  sound = arc_sound g X P by-boxes (accept_passed accepted).known query;
})

-- ---- an edge inside whose sector the query is, strictly on one side of it
beside_unheld : (A B P : Point) (left : Bool) →
    sign_of (orientation_of A B P) ≡ cond left positive negative → is_on_edge A B P ≡ false
unfolding is_on_edge
beside_unheld A B P true e = rw e
beside_unheld A B P false e = rw e

pub told_way : {vs : List ℤ} {X P : Point} {sectors : List ℕ} {k : ℕ} → Telling vs X P sectors k → (j : ℕ) →
    j < vertices_count vs → is_inside sectors k j ≡ true → (left : Bool) →
    sign_of (orientation_of (start_of vs j) (end_of vs j) P) ≡ cond left positive negative → {way : ℤ} {c : ℕ} →
    way ≡ unit_of (way_by (turns_left sectors j) left) → c ≡ cond (is_zero (sign_of way)) 0 1 →
    tally_from vs X P j 1 ≡ Crossed c way
told_way {vs} {X} {P} telling j below inside left side same count =
    let told = telling.across j below inside left side in
    test_way vs X P j (rw (beside_unheld _ _ _ left side) (ap Way (ap unit_of told ∙ sym same))) count

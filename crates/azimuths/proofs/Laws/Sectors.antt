-- What sectors tell: an edge whose sector misses the query's azimuth is idle; and where it is inside the sector, the
-- edge is crossed by the side of it on which the query lies. Proved, in order: start_aside, end_aside; split,
-- missed_early, inside_early, start_parity, else_right; on_left, on_right, left_short, right_short, turn_short; parted,
-- missed-left, missed-right, across-left, across-right, missed, across; telling.
use mathlib.Core.Path.{◌≡◌, refl, sym, ◌∙◌, ap, ap₂, subst}
use mathlib.Core.Bool.{Bool, true, false, ◌&&◌, true≢false}
use mathlib.Core.List.{List}
use mathlib.Core.Logic.{◌⊎◌, inl, inr, ⊎_elim}
use Prim.Native.Nat.{ℕ, zero, suc, ◌+◌, ◌%◌, ◌≤◌, ◌<◌}
use native.Mathlib.Nat.{eq-or-lt_of_le}
use native.Mathlib.Omega.{arith}
use borrow.Author.Tests.{ltb-true, ltb-false, eq-eqb, ne_eqb}
use lib.Dec.{eqb, ltb}
use lib.IntN.{ℤ, pos, negsuc, neg_ℤ}
use lib.Signed.{◌<ℤ◌, lt_z_yes, <ℤ_irrefl}
use Rattle.integers.specs.Sign.{sign_of, is_positive}
use Rattle.integers.proofs.Sign.{gt, allows_is}
use Rattle.integers.proofs.Order.{<ℤ-trans}
use Rattle.sphere.specs.declared.point.Point.{Point}
use Rattle.sphere.specs.Orientation.{orientation_of}
use Rattle.sphere.proofs.Laws.Orientation.{orientation_cycle, orientation_swap}
use Rattle.answer.proofs.Laws.Chain.{both_true}
use Rattle.polygon.specs.Vertices.{start_of, end_of}
use Rattle.polygon.proofs.Laws.Checks.{OffCircles}
use Rattle.azimuths.specs.declared.azimuth.Frame.{Frame}
use Rattle.azimuths.specs.Azimuth.{azimuth_of, gap_of, Aside, FrameAt}
use Rattle.azimuths.specs.Sectors.{turn_of, early_of, sector_start, sector_width, is_left, SectorsOf, way_by, Telling}
use Rattle.azimuths.proofs.Laws.Azimuth.{Parted, azimuth_below, left_of, right_of, opposite}
use Rattle.azimuths.proofs.Laws.Frame.{frame_level}
use Rattle.azimuths.proofs.Laws.Plane.{clear_not_crossed, clear_not_on}
use Rattle.azimuths.proofs.Laws.Sides.{Unnoticed, left_left, left_right, right_right, right_left}
use Rattle.azimuths.proofs.Laws.Sides.{Way, way_left, way_right}

-- ---- the ends of an edge have directions
module _ {X : Point} {F : Frame} (frame : FrameAt X F) where
  start_aside : (A B : Point) → (orientation_of A B X ≡ pos 0 → ⊥) → Aside F A
  start_aside A B off = record {
    seen_from = λ e n. off (sym (orientation_cycle X A B) ∙ frame_level frame A B e n);
  }

  end_aside : (A B : Point) → (orientation_of A B X ≡ pos 0 → ⊥) → Aside F B
  end_aside A B off = start_aside B A (λ e. off (orientation_swap A B X ∙ ap neg_ℤ e))

-- ---- by the azimuths of the query and of the edge's ends
split : (a b : ℕ) → (a < b) ⊎ (b ≤ a)
split a b = go (ltb a b) refl
  where
    go : (t : Bool) → ltb a b ≡ t → (a < b) ⊎ (b ≤ a)
    go true e = inl (ltb-true a b e)
    go false e = inr (ltb-false a b e)

-- a sector that starts early: what it misses, and what is inside; and which way its edge turns
module _ (k from turn early : ℕ) (hk : k < 65536) (hf : from < 65536) (he : early < 2) where
  missed_early : turn + early < gap_of k (gap_of from early) → turn < gap_of k from
  missed_early h = omega arith

  inside_early : 1 < gap_of k (gap_of from early) → gap_of k (gap_of from early) < turn + early →
      (0 < gap_of k from) × (gap_of k from < turn)
  inside_early h m = (omega arith, omega arith)

start_parity : (l : Bool) (first second : ℕ) → first < 65536 → second < 65536 →
    eqb (sector_start l first second % 2) 1 ≡ l
start_parity true first second h k = eq-eqb (sector_start true first second % 2) 1 (omega arith)
start_parity false first second h k = ne_eqb (sector_start false first second % 2) 1 (λ e. omega arith)

-- not on the left is on the right
else_right : (z : ℤ) → (z ≡ pos 0 → ⊥) → is_positive (sign_of z) ≡ false → z <ℤ pos 0
else_right (pos zero) off e = absurd (off refl)
else_right (pos (suc n)) off e = absurd (true≢false e)
else_right (negsuc n) off e = lt_z_yes tt

module _ {X : Point} {F : Frame} (frame : FrameAt X F) (A B : Point) (off : orientation_of A B X ≡ pos 0 → ⊥) where
  abbrev at : Point → ℕ
  at Q = azimuth_of F Q

  a : Aside F A
  a = start_aside frame A B off

  b : Aside F B
  b = end_aside frame A B off

  on_left : is_left X A B ≡ true → pos 0 <ℤ orientation_of A B X
  on_left e = allows_is gt (orientation_of A B X) (rw e tt)

  on_right : is_left X A B ≡ false → orientation_of A B X <ℤ pos 0
  on_right = else_right (orientation_of A B X) off

  left_short : pos 0 <ℤ orientation_of A B X → gap_of (at B) (at A) ≤ 32768
  left_short n =
      ⊎_elim
      (λ h. omega arith)
      (λ h.
      let s = right_of frame A B a b (omega arith) in
      absurd (<ℤ_irrefl (<ℤ-trans n (subst (λ o. o <ℤ pos 0) (orientation_cycle X A B) s))))
      (split (gap_of (at B) (at A)) 32769)

  right_short : orientation_of A B X <ℤ pos 0 → gap_of (at A) (at B) ≤ 32768
  right_short n =
      let hA = azimuth_below F A in
      let hB = azimuth_below F B in
      ⊎_elim
      (λ h. omega arith)
      (λ h.
      let s = left_of frame A B a b (omega arith) (omega arith) in
      absurd (<ℤ_irrefl (<ℤ-trans n (subst (λ o. pos 0 <ℤ o) (orientation_cycle X A B) s))))
      (split (gap_of (at A) (at B)) 32769)

  -- it turns by half a turn at most
  pub turn_short : turn_of (is_left X A B) (at A) (at B) ≤ 32768
  turn_short = go (is_left X A B) refl
    where
      go : (l : Bool) → is_left X A B ≡ l → turn_of l (at A) (at B) ≤ 32768
      go true e = left_short (on_left e)
      go false e = right_short (on_right e)

  module _ (P : Point) (p : Aside F P) where
    below : (at P < 65536) × (at A < 65536) × (at B < 65536)
    below = (azimuth_below F P, azimuth_below F A, azimuth_below F B)

    parted : Parted X P A B → Unnoticed X P A B
    parted s = (
      clear_not_crossed X s.normal P A B s.through s.first s.second s.beyond,
      clear_not_on X s.normal P A B s.through s.first s.second s.beyond off,
    )

    -- it misses: less than half a turn beyond its end, more than half a turn beyond its start, or half a turn from both
    missed-left : pos 0 <ℤ orientation_of A B X → gap_of (at B) (at A) < gap_of (at P) (at A) → Unnoticed X P A B
    missed-left n missed =
        let r = below in
        let short = left_short n in
        ⊎_elim
        (λ h. left_right X P A B off n (right_of frame P B p b (omega arith)))
        (λ h.
        ⊎_elim
        (λ e. parted (opposite frame P A B p a b (omega arith) (sym e)))
        (λ far. left_left X P A B off n (left_of frame P A p a (omega arith) (omega arith)))
        (eq-or-lt_of_le {n = 32768} {m = gap_of (at P) (at A)} (omega arith)))
        (split (gap_of (at P) (at A)) (gap_of (at B) (at A) + 32768))

    missed-right : orientation_of A B X <ℤ pos 0 → gap_of (at A) (at B) < gap_of (at P) (at B) → Unnoticed X P A B
    missed-right n missed =
        let r = below in
        let short = right_short n in
        ⊎_elim
        (λ h. right_right X P A B off n (right_of frame P A p a (omega arith)))
        (λ h.
        ⊎_elim
        (λ e. parted (opposite frame P A B p a b (omega arith) (omega arith)))
        (λ far. right_left X P A B off n (left_of frame P B p b (omega arith) (omega arith)))
        (eq-or-lt_of_le {n = 32768} {m = gap_of (at P) (at B)} (omega arith)))
        (split (gap_of (at P) (at B)) (gap_of (at A) (at B) + 32768))

    -- or is inside
    across-left : pos 0 <ℤ orientation_of A B X → 0 < gap_of (at P) (at A) → gap_of (at P) (at A) < gap_of (at B) (at A) →
        Way X P A B true
    across-left n h k =
        let r = below in
        let short = left_short n in
        way_left X P A B n (right_of frame P A p a (omega arith)) (left_of frame P B p b (omega arith) (omega arith))

    across-right : orientation_of A B X <ℤ pos 0 → 0 < gap_of (at P) (at B) → gap_of (at P) (at B) < gap_of (at A) (at B) →
        Way X P A B false
    across-right n h k =
        let r = below in
        let short = right_short n in
        way_right X P A B n (left_of frame P A p a (omega arith) (omega arith)) (right_of frame P B p b (omega arith))

    -- by the sector
    missed : (l : Bool) → is_left X A B ≡ l →
        sector_width l (at A) (at B) < gap_of (at P) (sector_start l (at A) (at B)) → Unnoticed X P A B
    missed true e h =
        let r = below in
        let m = missed_early (at P) (at A) (gap_of (at B) (at A)) (early_of true (at A)) r.0 r.1 (omega arith) in
        missed-left (on_left e) (m h)
    missed false e h =
        let r = below in
        let m = missed_early (at P) (at B) (gap_of (at A) (at B)) (early_of false (at B)) r.0 r.2 (omega arith) in
        missed-right (on_right e) (m h)

    across : (l : Bool) → is_left X A B ≡ l → 1 < gap_of (at P) (sector_start l (at A) (at B)) →
        gap_of (at P) (sector_start l (at A) (at B)) < sector_width l (at A) (at B) → Way X P A B l
    across true e h k =
        let r = below in
        let m = inside_early (at P) (at A) (gap_of (at B) (at A)) (early_of true (at A)) r.0 r.1 (omega arith) in
        across-left (on_left e) (m h k).0 (m h k).1
    across false e h k =
        let r = below in
        let m = inside_early (at P) (at B) (gap_of (at A) (at B)) (early_of false (at B)) r.0 r.2 (omega arith) in
        across-right (on_right e) (m h k).0 (m h k).1

pub telling : {vs : List ℤ} {X : Point} {F : Frame} {sectors : List ℕ} → FrameAt X F → OffCircles vs X →
    SectorsOf vs X F sectors → (P : Point) → Aside F P → Telling vs X P sectors (azimuth_of F P)
telling {vs} {X} {F} frame off s P p = record {
  room = s.room;
  idle = λ j h e.
      let A = start_of vs j in
      let B = end_of vs j in
      let put = ap₂ (λ w start. ltb w (gap_of (azimuth_of F P) start)) (s.widths j h) (s.starts j h) in
      let r = missed frame A B (off j h) P p (is_left X A B) refl (ltb-true _ _ (sym put ∙ e)) in
      record { uncrossed = r.0; unheld = r.1 };
  across = λ j h e left side.
      let A = start_of vs j in
      let B = end_of vs j in
      let put = ap₂ (λ w start. ltb 1 (gap_of (azimuth_of F P) start) && ltb (gap_of (azimuth_of F P) start) w)
      (s.widths j h) (s.starts j h) in
      let m = both_true _ _ (sym put ∙ e) in
      let turn = ap (λ start. eqb (start % 2) 1) (s.starts j h)
      ∙ start_parity (is_left X A B) (azimuth_of F A) (azimuth_of F B) (azimuth_below F A) (azimuth_below F B) in
      across frame A B (off j h) P p (is_left X A B) refl (ltb-true _ _ m.0) (ltb-true _ _ m.1) left side
      ∙ ap (λ l. way_by l left) (sym turn);
}

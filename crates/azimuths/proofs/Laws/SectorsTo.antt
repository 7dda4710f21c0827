-- The loop that puts the sectors of all edges. Defined, in order: sector_part, SectorsTo (before edge i). Proved, in
-- order: sectors_start, sectors_step, sectors_end; dot_seen (how large a coordinate along a frame is).
use mathlib.Core.Path.{◌≡◌, refl, ◌∙◌, ap}
use mathlib.Core.Bool.{Bool}
use mathlib.Core.List.{List}
use mathlib.Core.Logic.{⊎_elim}
use Prim.Native.Nat.{ℕ, ◌+◌, ◌*◌, ◌≤◌, ◌<◌}
use native.Mathlib.Nat.{eq-or-lt_of_le}
use native.Mathlib.Omega.{arith}
use lib.IntN.{ℤ, ◌*ℤ◌}
use lib.ListN.{length, get_or, set, length-set}
use lib.Seq.{get_or-set_same, get_or-set_other}
use Rattle.integers.proofs.Size.{Is, known, times, plus}
use Rattle.sphere.specs.declared.point.Point.{Point}
use Rattle.sphere.specs.Point.{fine, Fits, Within}
use Rattle.sphere.specs.Orientation.{dot_of}
use Rattle.polygon.specs.Vertices.{vertices_count, start_of, end_of}
use Rattle.polygon.proofs.Laws.Edges.{next_start}
use Rattle.azimuths.specs.declared.azimuth.Frame.{Frame}
use Rattle.azimuths.specs.Azimuth.{seen, azimuth_of}
use Rattle.azimuths.specs.Sectors.{sector_start, sector_width, is_left, SectorsOf}

-- The start or the width of the sector of edge j.
abbrev sector_part : (Bool → ℕ → ℕ → ℕ) → List ℤ → Point → Frame → ℕ → ℕ
sector_part part vs X F j =
    part (is_left X (start_of vs j) (end_of vs j)) (azimuth_of F (start_of vs j)) (azimuth_of F (end_of vs j))

-- On a list m that was l: the sectors of the edges before i, and `first`, the azimuth of the start of edge i.
pub record SectorsTo (vs : List ℤ) (X : Point) (F : Frame) (l m : List ℕ) (first i : ℕ) : Type 0 where
  pub room : length m ≡ length l
  pub before : i ≤ vertices_count vs
  pub start : i < vertices_count vs → first ≡ azimuth_of F (start_of vs i)
  pub starts : (j : ℕ) → j < i → get_or m (j * 2) 0 ≡ sector_part sector_start vs X F j
  pub widths : (j : ℕ) → j < i → get_or m (j * 2 + 1) 0 ≡ sector_part sector_width vs X F j

pub sectors_start : {vs : List ℤ} {X : Point} {F : Frame} {l : List ℕ} {first : ℕ} →
    first ≡ azimuth_of F (start_of vs 0) → SectorsTo vs X F l l first 0
sectors_start e = record {
  room = refl;
  before = omega arith;
  start = λ k. e;
  starts = λ j k. absurd (omega arith);
  widths = λ j k. absurd (omega arith);
}

-- The two numbers of edge i are put.
module _ {vs : List ℤ} {X : Point} {F : Frame} {l m : List ℕ} {first i : ℕ} (s : SectorsTo vs X F l m first i)
    (h : i < vertices_count vs) (r : vertices_count vs * 2 ≤ length l) (a w : ℕ) where
  abbrev put : List ℕ
  put = set (set m (i * 2) a) (i * 2 + 1) w

  put_room : length put ≡ length m
  put_room = length-set (set m (i * 2) a) (i * 2 + 1) w ∙ length-set m (i * 2) a

  put_start : get_or put (i * 2) 0 ≡ a
  put_start =
      get_or-set_other (set m (i * 2) a) (i * 2 + 1) (i * 2) w 0 (λ e. omega arith)
      ∙ get_or-set_same m (i * 2) a 0 (omega (arith, s.room))

  put_width : get_or put (i * 2 + 1) 0 ≡ w
  put_width = get_or-set_same (set m (i * 2) a) (i * 2 + 1) w 0 (omega (arith, s.room, length-set m (i * 2) a))

  put_other : (k : ℕ) → k < i * 2 → get_or put k 0 ≡ get_or m k 0
  put_other k b =
      get_or-set_other (set m (i * 2) a) (i * 2 + 1) k w 0 (λ e. omega arith)
      ∙ get_or-set_other m (i * 2) k a 0 (λ e. omega arith)

  module _ {second : ℕ} {left : Bool} (e : second ≡ azimuth_of F (end_of vs i))
      (turn : left ≡ is_left X (start_of vs i) (end_of vs i))
      (starts : a ≡ sector_start left first second) (widths : w ≡ sector_width left first second) where
    part_same : (part : Bool → ℕ → ℕ → ℕ) → part left first second ≡ sector_part part vs X F i
    part_same part = rw (turn, s.start h, e)

    pub sectors_step : SectorsTo vs X F l put second (i + 1)
    sectors_step = record {
      room = put_room ∙ s.room;
      before = omega arith;
      start = λ k. e ∙ ap (azimuth_of F) (next_start vs i (i + 1) refl k);
      starts = λ j k. ⊎_elim
          (λ q. rw q (put_start ∙ starts ∙ part_same sector_start))
          (λ b. put_other (j * 2) (omega arith) ∙ s.starts j b)
          (eq-or-lt_of_le {n = j} {m = i} (omega arith));
      widths = λ j k. ⊎_elim
          (λ q. rw q (put_width ∙ widths ∙ part_same sector_width))
          (λ b. put_other (j * 2 + 1) (omega arith) ∙ s.widths j b)
          (eq-or-lt_of_le {n = j} {m = i} (omega arith));
    }

pub sectors_end : {vs : List ℤ} {X : Point} {F : Frame} {l m : List ℕ} {first i : ℕ} → SectorsTo vs X F l m first i →
    vertices_count vs ≤ i → vertices_count vs * 2 ≤ length l → SectorsOf vs X F m
sectors_end s h r = record {
  room = omega (arith, s.room);
  starts = λ j k. s.starts j (omega arith);
  widths = λ j k. s.widths j (omega arith);
}

-- ---- how large a coordinate is
pub dot_seen : (N P : Point) → Within fine N → Within fine P → Fits seen (dot_of N P)
unfolding dot_of
dot_seen N P n p =
    let term : (a b : ℤ) → Fits fine a → Fits fine b → Is (a *ℤ b) (a *ℤ b) (fine * fine) =
    λ a b f g. times (known {z = a} f.within) (known {z = b} g.within) in
    record {
      within = (plus (plus (term N.x P.x n.at_x p.at_x) (term N.y P.y n.at_y p.at_y))
          (term N.z P.z n.at_z p.at_z)).size;
    }

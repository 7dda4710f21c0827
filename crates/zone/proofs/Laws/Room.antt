-- Scratch space for a sheet's boxes. Proved, in order: any_boxes (768 numbers, for any sheet), sized_boxes, few_boxes
-- (48, for one of at most 3,072 bytes), middle_boxes (258, for one of at most 16,384); few_room, middle_room, any_room.
use mathlib.Core.List.{List}
use Prim.Native.Nat.{ℕ, ◌+◌, ◌*◌, ◌≤◌}
use native.Mathlib.Omega.{arith}
use lib.IntN.{ℤ}
use lib.ListN.{length}
use Rattle.big_endian.proofs.Laws.Rows.{ints_at-length}
use Rattle.polygon.specs.Vertices.{vertices_count}
use Rattle.search.specs.Boxes.{run_count}
use Rattle.fields.specs.Fields.{vertices_start}
use Rattle.fields.proofs.Laws.Fields.{passed_spans}
use Rattle.judging.proofs.Laws.Accept.{room_any}
use Rattle.sheet.specs.Sheet.{vertex_count_of, vertices_of}
use Rattle.sheet.specs.Open.{BoxesFor}
use Rattle.zone.specs.Judge.{RoomIn}

pub any_boxes : (b : List ℕ) (boxes : List ℤ) → 768 ≤ length boxes → BoxesFor b boxes
any_boxes b boxes h = record { enough = λ e. room_any (vertices_of b) boxes h }

more_runs : (m n : ℕ) → m ≤ n → run_count m ≤ run_count n
unfolding run_count
more_runs m n h = omega arith

-- A vertex has twelve bytes.
sized_boxes : (b : List ℕ) (boxes : List ℤ) (n : ℕ) → length b ≤ n * 12 → run_count n * 6 ≤ length boxes →
    BoxesFor b boxes
sized_boxes b boxes n short h = record {
  enough = λ e.
      let spans = passed_spans b e in
      let size = ints_at-length b (vertices_start b + 3) (vertex_count_of b * 3) in
      let few : vertices_count (vertices_of b) ≤ n =
      omega (arith, size, spans.second_at, spans.ends, spans.known_at, spans.name.low) in
      record { enough = λ _. omega (arith, more_runs (vertices_count (vertices_of b)) n few) };
}

pub few_boxes : (b : List ℕ) (boxes : List ℤ) → length b ≤ 3072 → 48 ≤ length boxes → BoxesFor b boxes
unfolding run_count
few_boxes b boxes short h = sized_boxes b boxes 256 (omega arith) (omega arith)

pub middle_boxes : (b : List ℕ) (boxes : List ℤ) → length b ≤ 16384 → 258 ≤ length boxes → BoxesFor b boxes
unfolding run_count
middle_boxes b boxes short h = sized_boxes b boxes 1366 (omega arith) (omega arith)

-- ---- the sizes of the scratch space, for the code
pub few_room : (b : List ℕ) → length b ≤ 3072 → RoomIn 768 48 b
few_room b short = record { numbers_few = omega arith; boxes_few = omega arith; enough = omega arith; boxed = λ l h. few_boxes b l short (omega arith) }

pub middle_room : (b : List ℕ) → length b ≤ 16384 → RoomIn 4096 258 b
middle_room b short = record { numbers_few = omega arith; boxes_few = omega arith; enough = omega arith; boxed = λ l h. middle_boxes b l short (omega arith) }

pub any_room : (b : List ℕ) → RoomIn 12288 768 b
any_room b = record { numbers_few = omega arith; boxes_few = omega arith; enough = omega arith; boxed = λ l h. any_boxes b l (omega arith) }

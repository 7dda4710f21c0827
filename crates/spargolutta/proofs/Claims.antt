-- The claims of specs/Claims, proved. In order: write_grid_exactly, written_reads_from_c; vertices_read_back,
-- read_writes_from_c.
use mathlib.Core.Path.{◌≡◌, refl, sym, ap}
use mathlib.Core.Bool.{Bool, true, false, not, cond}
use mathlib.Core.List.{List, [], ◌∷◌}
use Prim.Native.Nat.{ℕ, zero, suc, ◌+◌, ◌*◌, ◌%◌}
use native.Mathlib.Omega.{arith}
use borrow.Author.Tests.{eq-eqb, ne_eqb}
use lib.Dec.{ltb, lit<}
use lib.ListN.{length, take, drop}
use lib.Seq.{take_at}
use Rattle.sphere.specs.declared.point.Grid.{Grid}
use Rattle.sphere.specs.declared.point.Grid.TheVariants.{Coarse, Fine}
use Rattle.sphere.specs.declared.point.Point.{Point}
use Rattle.sphere.specs.Point.{is_grid_number, grid_numbered, is_null}
use Rattle.std.specs.declared.result.Result.TheVariants.{Ok, Err}
use Rattle.answer.specs.declared.Reason.TheVariants.{ResultRoom}
use Rattle.answer.specs.declared.Verdict.TheVariants.{Done}
use Rattle.answer.specs.Refusal.{Check}
use Rattle.answer.specs.Answer.{number_of, answer_after}
use Rattle.answer.proofs.Laws.Numbers.{Numbered, ◌both◌, here_numbered}
use Rattle.polygon.specs.Grids.{is_mixed, grid_of_second}
use Rattle.polygon.specs.GridClaims.{on}
use Rattle.fields.specs.Fields.{vertices_start}
use Rattle.fields.proofs.Laws.Fields.{passed_spans}
use Rattle.sheet.specs.Sheet.{vertex_count_of, vertices_of, sheet_check, read_of}
use Rattle.sheet.proofs.Claims.{written_reads_back, read_writes_back}
use Rattle.sheet.proofs.Mixed.{write_mixed_exactly}
use Rattle.sheet.proofs.Laws.Numbers.{Above, above_sheet}
use Rattle.sheet.proofs.Laws.Reads.{sheet_five, read_accepted}
use Rattle.book.specs.Which.{grid_number_of}
use Rattle.compare.proofs.Laws.Ring.{ring_part}
use Rattle.spargolutta.specs.Claims.{WriteGridExactly, WrittenReadsFromC, ReadWritesFromC, VerticesReadBack}
use Rattle.spargolutta.specs.Outline.{outline_of}
use Rattle.spargolutta.specs.Writing.{listed_of, point_grid}
use Rattle.spargolutta.specs.Reading.{row_of, fill_check, filled_to}
use Rattle.spargolutta.proofs.Read.{fill_passed, row_length}

-- The points are on the vertices' grid exactly where the number names one.
mixed : (g : ℕ) (second : Point) →
    is_mixed (grid_numbered g) (point_grid g ∷ grid_of_second (grid_numbered g) (on (point_grid g) second) ∷ [])
    ≡ not (is_grid_number g)
mixed g second = go g (is_null second)
  where
    go : (g : ℕ) (none : Bool) →
        is_mixed (grid_numbered g) (point_grid g ∷ cond none (grid_numbered g) (point_grid g) ∷ []) ≡ not (is_grid_number g)
    go zero true = refl
    go zero false = refl
    go (suc zero) true = refl
    go (suc zero) false = refl
    go (suc (suc n)) none =
        rw (ne_eqb (suc (suc n)) 0 (λ e. omega arith), ne_eqb (suc (suc n)) 1 (λ e. omega arith))

pub write_grid_exactly : WriteGridExactly
write_grid_exactly charset name known second vertices g room =
    rw (sym (mixed g second))
    (write_mixed_exactly charset name (on (point_grid g) known) (grid_numbered g) (listed_of vertices)
    (on (point_grid g) second) room)

pub written_reads_from_c : WrittenReadsFromC
written_reads_from_c zone charset name known second vertices g buffer small e =
    written_reads_back zone charset name (on (point_grid g) known) (grid_numbered g) (listed_of vertices)
    (on (point_grid g) second) buffer small e

-- ---- the vertices
zero_passed : (c : Check) → Numbered (Above 10) c → number_of (answer_after c (Ok (Done 0))) ≡ 0 → c ≡ Ok tt
zero_passed (Ok unit) h e = refl
zero_passed (Err refusal) h e = absurd (omega (arith, h.each refusal refl))

module _ (b buffer : List ℕ) where
  above : Numbered (Above 10) (fill_check b (length buffer))
  unfolding fill_check
  above =
      let n = vertex_count_of b * 12 in
      above_sheet b both here_numbered ResultRoom n (ltb (length buffer) n) (lit< tt)

  done : number_of (answer_after (fill_check b (length buffer)) (Ok (Done 0))) ≡ 0 → fill_check b (length buffer) ≡ Ok tt
  done e = zero_passed (fill_check b (length buffer)) above e

  row_vertices : sheet_check b ≡ Ok tt → outline_of (row_of b) ≡ vertices_of b
  unfolding row_of
  row_vertices ok =
      let spans = passed_spans b (sheet_five b ok) in
      ring_part b (vertices_start b + 3) (vertex_count_of b) (omega (arith, spans.second_at, spans.ends))

  -- the bytes that are handed out
  handed : fill_check b (length buffer) ≡ Ok tt →
      take ((read_of b).vertex_count * 12) (filled_to b buffer) ≡ row_of b
  unfolding filled_to
  handed passed =
      let ok = (fill_passed b (length buffer) passed).0 in
      let count = ap (λ s. s.vertex_count * 12) (read_accepted b ok) in
      rw (passed, count, take_at (row_of b) (drop (length (row_of b)) buffer) _ (row_length b ok))

pub vertices_read_back : VerticesReadBack
vertices_read_back b buffer e =
    let passed = done b buffer e in
    rw (handed b buffer passed) (row_vertices b buffer (fill_passed b (length buffer) passed).0)

-- ---- what is read writes back
grid_numbered_lem : (g : Grid) → grid_numbered (grid_number_of g) ≡ g
grid_numbered_lem Coarse = refl
grid_numbered_lem Fine = refl

point_grid_lem : (g : Grid) → point_grid (grid_number_of g) ≡ g
point_grid_lem Coarse = refl
point_grid_lem Fine = refl

-- Whole twelves, so that they are the list.
row_listed : (b : List ℕ) → sheet_check b ≡ Ok tt → listed_of (row_of b) ≡ vertices_of b
unfolding listed_of
row_listed b ok =
    let n = row_length b ok in
    let twelves : length (row_of b) % 12 ≡ 0 = omega arith in
    rw (eq-eqb (length (row_of b) % 12) 0 twelves) (row_vertices b [] ok)

pub read_writes_from_c : ReadWritesFromC
read_writes_from_c b row buffer are e n =
    let passed = done b row e in
    let ok = (fill_passed b (length row) passed).0 in
    let g = (read_of b).grid in
    let accepted = ap (λ s. number_of s.answer) (read_accepted b ok) in
    rw (handed b row passed, row_listed b ok, grid_numbered_lem g, point_grid_lem g) (read_writes_back b buffer are accepted n)

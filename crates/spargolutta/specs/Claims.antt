-- The promised theorems, as statements. Their proofs are in proofs/Claims. Stated, in order: WriteGridExactly (28, from
-- C), WrittenReadsFromC (a sheet written from C reads back, with the vertices that were handed over), ReadWritesFromC
-- (what reading hands out to C writes back the same bytes), VerticesReadBack (the bytes that are handed out are the
-- vertices that reading tells of).
use Rattle.std.specs.Prelude.{◌≡◌, not, List, ℕ, ◌*◌, ◌<◌, length, take}
use Rattle.sphere.specs.declared.point.Point.{Point}
use Rattle.big_endian.specs.Bytes.{AreBytes}
use Rattle.std.specs.declared.result.Result.TheVariants.{Ok}
use Rattle.answer.specs.declared.Reason.TheVariants.{Charset, FieldLength}
use Rattle.answer.specs.declared.Verdict.TheVariants.{Done}
use Rattle.answer.specs.Answer.{number_of, place_of}
use Rattle.answer.specs.Chain.{◌then◌, fails_if}
use Rattle.polygon.specs.Checks.{list_check}
use Rattle.polygon.specs.GridClaims.{Mixed}
use Rattle.sphere.specs.Point.{is_grid_number, grid_numbered}
use Rattle.fields.specs.Fields.{is_charset, is_name_length}
use Rattle.sheet.specs.Claims.{name_in, ReadsAs}
use Rattle.sheet.specs.Sheet.{vertices_of, read_of}
use Rattle.book.specs.Which.{grid_number_of}
use Rattle.spargolutta.specs.Outline.{outline_of}
use Rattle.spargolutta.specs.Writing.{listed_of, bytes_write_of, bytes_written_to}
use Rattle.spargolutta.specs.Reading.{fill_of, filled_to}

-- A number that names no grid is refused with 28, exactly if 23, 22 and 10 do not hold.
abbrev pub WriteGridExactly : Type 0
WriteGridExactly =
    (charset : ℕ) (name : List ℕ) (known second : Point) (vertices : List ℕ) (g room : ℕ) →
    Mixed (bytes_write_of charset name known second vertices g room)
    (fails_if Charset (not (is_charset charset))
    then fails_if FieldLength (not (is_name_length (length name)))
    then list_check (listed_of vertices))
    (not (is_grid_number g))

-- After a successful write, reading exactly the bytes written.
abbrev pub WrittenReadsFromC : Type 0
WrittenReadsFromC =
    (zone charset : ℕ) (name : List ℕ) (known second : Point) (vertices : List ℕ) (g : ℕ) (buffer : List ℕ) →
    zone < 4294967296 → number_of (bytes_write_of charset name known second vertices g (length buffer)) ≡ 0 →
    ReadsAs zone charset name known (grid_numbered g) (listed_of vertices) second
    (take (place_of (bytes_write_of charset name known second vertices g (length buffer)))
    (bytes_written_to zone charset name known second vertices g buffer))

-- After a successful read, and with the vertices' bytes that were handed out into a buffer of their own, writing what
-- was read into a buffer of as many bytes.
abbrev pub ReadWritesFromC : Type 0
ReadWritesFromC =
    (b row buffer : List ℕ) → AreBytes b → number_of (fill_of b (length row)) ≡ 0 → length buffer ≡ length b →
    let s = read_of b in
    let vertices = take (s.vertex_count * 12) (filled_to b row) in
    let g = grid_number_of s.grid in
    (bytes_write_of s.charset (name_in s b) s.known s.second vertices g (length buffer) ≡ Ok (Done (length b)))
    × (bytes_written_to s.zone s.charset (name_in s b) s.known s.second vertices g buffer ≡ b)

-- After success the front of the buffer, as vertices, is the list that reading tells of.
abbrev pub VerticesReadBack : Type 0
VerticesReadBack =
    (b buffer : List ℕ) → number_of (fill_of b (length buffer)) ≡ 0 →
    outline_of (take ((read_of b).vertex_count * 12) (filled_to b buffer)) ≡ vertices_of b

-- The promised theorems, as statements. Their proofs are in proofs/Claims. Stated, in order: WrittenReadsBack (what is
-- written reads back the same, on either grid), ReadWritesBack (what is read writes back the same bytes),
-- WriteMixedExactly (28), ShortBufferExactly (25), ReadNeverTen (reading never gives 10), SheetSize (a sheet has 69 to
-- 49,319 bytes), OctantSheet (document 01's sheet of 69 bytes, byte by byte: the round trips would hold of another
-- layout too), OctantPairSheet (the same with a second point, 84 bytes), OctantFineSheet (the same with tag 7). They
-- are of the definitions that the contracts of `read`, `load` and `write` cite. A second point of all zero is none.
use Rattle.std.specs.Prelude.{◌≡◌, not, List, [], ◌∷◌, ◌++◌, ℕ, ◌≤◌, ◌<◌, ℤ, pos, length, take, drop}
use Rattle.sphere.specs.declared.point.Point.{Point}
use Rattle.sphere.specs.declared.point.Grid.{Grid}
use Rattle.sphere.specs.declared.point.Grid.TheVariants.{Coarse, Fine}
use Rattle.sphere.specs.declared.point.GridPoint.{GridPoint}
use Rattle.big_endian.specs.Bytes.{AreBytes}
use Rattle.polygon.specs.Pair.{no_second}
use Rattle.std.specs.declared.result.Result.TheVariants.{Ok, Err}
use Rattle.answer.specs.declared.Reason.TheVariants.{Charset, FieldLength, SheetRoom}
use Rattle.answer.specs.Refusal.{refused_at}
use Rattle.answer.specs.Refusal.{Answer}
use Rattle.answer.specs.declared.Verdict.TheVariants.{Done}
use Rattle.answer.specs.Refusal.{Check}
use Rattle.answer.specs.Answer.{number_of, place_of}
use Rattle.polygon.specs.Vertices.{vertices_count}
use Rattle.answer.specs.Chain.{◌then◌, fails_if}
use Rattle.polygon.specs.Checks.{list_check}
use Rattle.polygon.specs.Grids.{is_mixed, grid_of_second}
use Rattle.polygon.specs.GridClaims.{Mixed, on}
use Rattle.fields.specs.Fields.{is_charset, is_name_length}
use Rattle.sheet.specs.declared.read.Sheet.{Sheet}
use Rattle.sheet.specs.Sheet.{name_at, vertices_of, read_of}
use Rattle.sheet.specs.Write.{sheet_bytes, input_check, write_of, written_to}

-- The name's bytes, by the place and the length that reading hands back.
abbrev pub name_in : Sheet → List ℕ → List ℕ
name_in s b = take s.name_len (drop s.name_at b)

-- Reading the bytes b hands back these parts, and no refusal.
pub record ReadsAs (zone charset : ℕ) (name : List ℕ) (known : Point) (g : Grid) (vertices : List ℤ) (second : Point)
    (b : List ℕ) : Type 0 where
  pub handed_back : read_of b ≡ record {
    answer = Ok (Done (length b));
    zone = zone;
    charset = charset;
    name_at = name_at;
    name_len = length name;
    known = known;
    vertex_count = vertices_count vertices;
    second = second;
    grid = g;
  }
  pub same_name : name_in (read_of b) b ≡ name
  pub same_vertices : vertices_of b ≡ vertices

-- After a successful write, reading exactly the bytes written. The place of success is how many they are.
abbrev pub WrittenReadsBack : Type 0
WrittenReadsBack =
    (zone charset : ℕ) (name : List ℕ) (known : GridPoint) (g : Grid) (vertices : List ℤ) (second : GridPoint)
    (buffer : List ℕ) →
    zone < 4294967296 → number_of (write_of charset name known g vertices second (length buffer)) ≡ 0 →
    ReadsAs zone charset name known.point g vertices second.point
    (take (place_of (write_of charset name known g vertices second (length buffer)))
    (written_to zone charset name known g vertices second buffer))

-- After a successful read, writing what was read into a buffer of as many bytes.
abbrev pub ReadWritesBack : Type 0
ReadWritesBack =
    (b buffer : List ℕ) → AreBytes b → number_of (read_of b).answer ≡ 0 → length buffer ≡ length b →
    let s = read_of b in
    let known = on s.grid s.known in
    let second = on s.grid s.second in
    (write_of s.charset (name_in s b) known s.grid (vertices_of b) second (length buffer) ≡ Ok (Done (length b)))
    × (written_to s.zone s.charset (name_in s b) known s.grid (vertices_of b) second buffer ≡ b)

-- Writing on mixed grids is refused with 28, exactly if 23, 22 and 10 do not hold.
abbrev pub WriteMixedExactly : Type 0
WriteMixedExactly =
    (charset : ℕ) (name : List ℕ) (known : GridPoint) (g : Grid) (vertices : List ℤ) (second : GridPoint) (room : ℕ) →
    Mixed (write_of charset name known g vertices second room)
    (fails_if Charset (not (is_charset charset)) then fails_if FieldLength (not (is_name_length (length name))) then list_check vertices)
    (is_mixed g (known.grid ∷ grid_of_second g second ∷ []))

-- 25 exactly when nothing else is wrong and the buffer is shorter than the sheet's own bytes; its place is their number.
pub record ShortBuffer (answer : Answer) (before : Check) (room size : ℕ) : Type 0 where
  pub refused→short : number_of answer ≡ 25 → (before ≡ Ok tt) × (room < size)
  pub short→refused : before ≡ Ok tt → room < size → answer ≡ Err (refused_at SheetRoom size)

abbrev pub ShortBufferExactly : Type 0
ShortBufferExactly =
    (zone charset : ℕ) (name : List ℕ) (known : GridPoint) (g : Grid) (vertices : List ℤ) (second : GridPoint)
    (room : ℕ) →
    ShortBuffer (write_of charset name known g vertices second room)
    (input_check charset name known g vertices second) room
    (length (sheet_bytes zone charset name known.point g vertices second.point))

-- A list that is too short or too long is refused by its length, 22.
abbrev pub ReadNeverTen : Type 0
ReadNeverTen = (b : List ℕ) → number_of (read_of b).answer ≡ 10 → ⊥

abbrev pub SheetSize : Type 0
SheetSize = (b : List ℕ) → number_of (read_of b).answer ≡ 0 → (69 ≤ length b) × (length b ≤ 49319)

-- The octant with known point (1,1,1), zone number 7, character set 1 and the one-byte name 0x41.
abbrev octant : List ℤ
octant = pos 1 ∷ pos 0 ∷ pos 0 ∷ pos 0 ∷ pos 1 ∷ pos 0 ∷ pos 0 ∷ pos 0 ∷ pos 1 ∷ []

abbrev centre : Point
centre = record { x = pos 1; y = pos 1; z = pos 1 }

-- A number from 0 to 255, as a coordinate's four bytes.
abbrev coordinates : List ℕ → List ℕ
coordinates [] = []
coordinates (n ∷ ns) = 0 ∷ 0 ∷ 0 ∷ n ∷ coordinates ns

-- With the tag of its vertices.
unfoldable pub octant_bytes : ℕ → List ℕ
octant_bytes tag =
    (1 ∷ 0 ∷ 4 ∷ 0 ∷ 0 ∷ 0 ∷ 7 ∷ [])
    ++ ((2 ∷ 0 ∷ 1 ∷ 1 ∷ [])
    ++ ((3 ∷ 0 ∷ 1 ∷ 65 ∷ [])
    ++ ((4 ∷ 0 ∷ 12 ∷ coordinates (1 ∷ 1 ∷ 1 ∷ []))
    ++ (tag ∷ 0 ∷ 36 ∷ coordinates (1 ∷ 0 ∷ 0 ∷ 0 ∷ 1 ∷ 0 ∷ 0 ∷ 0 ∷ 1 ∷ [])))))

abbrev pub OctantSheet : Type 0
OctantSheet = sheet_bytes 7 1 (65 ∷ []) centre Coarse octant no_second ≡ octant_bytes 5

-- The same with the second point (1,1,2), which passes: the sheet reads.
abbrev second : Point
second = record { x = pos 1; y = pos 1; z = pos 2 }

unfoldable pub octant_pair_bytes : List ℕ
octant_pair_bytes = octant_bytes 5 ++ (6 ∷ 0 ∷ 12 ∷ coordinates (1 ∷ 1 ∷ 2 ∷ []))

abbrev pub OctantPairSheet : Type 0
OctantPairSheet =
    (sheet_bytes 7 1 (65 ∷ []) centre Coarse octant second ≡ octant_pair_bytes)
    × ((read_of octant_pair_bytes).answer ≡ Ok (Done 84))

-- The same octant on the fine grid: tag 7 in place of 5.
abbrev pub OctantFineSheet : Type 0
OctantFineSheet =
    (sheet_bytes 7 1 (65 ∷ []) centre Fine octant no_second ≡ octant_bytes 7)
    × ((read_of (octant_bytes 7)).answer ≡ Ok (Done 69))
    × ((read_of (octant_bytes 7)).grid ≡ Fine)

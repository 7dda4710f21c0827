-- A sheet written from C: vertices of twelve bytes each, and the number of the grid that all points are on. Defined, in
-- order: listed_of, point_grid; bytes_write_of (the answer), bytes_written_to (the buffer after the call); list_size (for the
-- code alone). Both are writing's own (sheet/specs/Write), of the list that the bytes are. Claims: specs/Claims.
use Rattle.std.specs.Prelude.{◌&&◌, cond, List, [], ℕ, ◌*◌, ◌/◌, ◌%◌, eqb, leb, ℤ, length}
use Rattle.sphere.specs.declared.point.Point.{Point}
use Rattle.sphere.specs.declared.point.Grid.{Grid}
use Rattle.sphere.specs.declared.point.Grid.TheVariants.{Coarse, Fine}
use Rattle.answer.specs.Refusal.{Answer}
use Rattle.polygon.specs.GridClaims.{on}
use Rattle.sphere.specs.Point.{grid_numbered}
use Rattle.sheet.specs.Write.{write_of, written_to}
use Rattle.spargolutta.specs.Outline.{outline_of}

-- The vertices. Bytes that are not whole twelves are no list of whole threes: as the empty one they get 10.
unfoldable pub listed_of : List ℕ → List ℤ
listed_of b = cond (eqb (length b % 12) 0) (outline_of b) []

-- The grid of the two points. It is the vertices' for 0 and 1; a number that names no grid mixes them, which is 28.
abbrev pub point_grid : ℕ → Grid
point_grid g = cond (eqb g 1) Fine Coarse

abbrev pub bytes_write_of : ℕ → List ℕ → Point → Point → List ℕ → ℕ → ℕ → Answer
bytes_write_of charset name known second vertices g room =
    write_of charset name (on (point_grid g) known) (grid_numbered g) (listed_of vertices) (on (point_grid g) second) room

abbrev pub bytes_written_to : ℕ → ℕ → List ℕ → Point → Point → List ℕ → ℕ → List ℕ → List ℕ
bytes_written_to zone charset name known second vertices g buffer =
    written_to zone charset name (on (point_grid g) known) (grid_numbered g) (listed_of vertices)
    (on (point_grid g) second) buffer

-- ---- for the code alone: readers need none of it

-- How many numbers are decoded of n bytes: none where 10 is certain.
abbrev pub list_size : ℕ → ℕ
list_size n = cond (eqb (n % 12) 0 && leb n 49152) (n / 12 * 3) 0

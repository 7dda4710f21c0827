-- Document 02, P7: importing, on either grid. Defined, in order: plain_write_of, plain_written_to; import_on (the answer),
-- unless_refused, imported_on (the buffer after the call); import_of, imported_to (on the coarse grid). All are writing's, of
-- the vertices that the text's positions have on the grid, and with no second point.
use Rattle.std.specs.Prelude.{List, ℕ, ℤ}
use Rattle.sphere.specs.declared.point.Point.{Point}
use Rattle.sphere.specs.declared.point.Grid.{Grid}
use Rattle.sphere.specs.declared.point.Grid.TheVariants.{Coarse}
use Rattle.std.specs.declared.result.Result.TheVariants.{Ok, Err}
use Rattle.answer.specs.Refusal.{Answer}
use Rattle.answer.specs.Refusal.{Check}
use Rattle.answer.specs.Answer.{answer_after}
use Rattle.polygon.specs.Pair.{no_second}
use Rattle.polygon.specs.GridClaims.{on}
use Rattle.sheet.specs.Write.{write_of, written_to}
use Rattle.geojson.specs.Scan.{import_check, vertices_on}

-- Writing on a grid with no second point: its answer, and the buffer after it.
abbrev pub plain_write_of : Grid → ℕ → List ℕ → Point → List ℤ → ℕ → Answer
plain_write_of g charset name known vertices room = write_of charset name (on g known) g vertices (on g no_second) room

abbrev pub plain_written_to : Grid → ℕ → ℕ → List ℕ → Point → List ℤ → List ℕ → List ℕ
plain_written_to g zone charset name known vertices buffer =
    written_to zone charset name (on g known) g vertices (on g no_second) buffer

unfoldable pub import_on : Grid → List ℕ → ℕ → List ℕ → Point → ℕ → Answer
import_on g text charset name known room =
    answer_after (import_check text) (plain_write_of g charset name known (vertices_on g text) room)

-- A refusal changes nothing.
abbrev pub unless_refused : Check → List ℕ → List ℕ → List ℕ
unless_refused (Ok unit) written buffer = written
unless_refused (Err refusal) written buffer = buffer

unfoldable pub imported_on : Grid → ℕ → List ℕ → ℕ → List ℕ → Point → List ℕ → List ℕ
imported_on g zone text charset name known buffer =
    unless_refused (import_check text) (plain_written_to g zone charset name known (vertices_on g text) buffer) buffer

-- On the coarse grid.
abbrev pub import_of : List ℕ → ℕ → List ℕ → Point → ℕ → Answer
import_of text charset name known room = import_on Coarse text charset name known room

abbrev pub imported_to : ℕ → List ℕ → ℕ → List ℕ → Point → List ℕ → List ℕ
imported_to zone text charset name known buffer = imported_on Coarse zone text charset name known buffer

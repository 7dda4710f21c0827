-- `writing::write_list` meets its contract.
use mathlib.Core.Path.{sym, ap, ◌∙◌}
use lib.ListN.{length}
use lib.Seq.{length-take-le}
use Rattle.big_endian.specs.Bytes.{ints_at}
use Rattle.polygon.specs.GridClaims.{on}
use Rattle.sphere.specs.Point.{grid_numbered}
use Rattle.sheet.specs.Write.{write_of, written_to}
use Rattle.spargolutta.specs.Writing.{point_grid}
use Rattle.spargolutta.proofs.Listed.{decoded_front, decoded_room, alike_listed}
use Rattle.spargolutta.proofs.writing.write_list.Goals as goal

pub slice_bounds-write-end : goal.slice_bounds-write-end
slice_bounds-write-end c = sym (length-take-le _ _ (decoded_room _ _ _ c.decode.ensures))

pub returns : goal.returns
returns c =
    let i = c.args in
    let b = i.vertices.now in
    let row = decoded_front b _ _ c.decode.ensures ∙ ap (ints_at b 0) c.list_size-size.ensures.0 in
    let known = c.placed-known.ensures in
    let second = c.placed-second.ensures in
    let own = c.grid_numbered-own.ensures in
    let alike = alike_listed i.charset i.name.now (on (point_grid i.grid) i.known) (grid_numbered i.grid)
    (on (point_grid i.grid) i.second) b in record {
      value = c.write.ensures.value
          ∙ (λ j. write_of i.charset i.name.now (known j) (own j) (row j) (second j) (length i.sheet.now))
          ∙ alike.answers _;
      sheet_after = c.write.ensures.buffer_after
          ∙ (λ j. written_to i.zone i.charset i.name.now (known j) (own j) (row j) (second j) i.sheet.now)
          ∙ alike.buffers _ _;
    }

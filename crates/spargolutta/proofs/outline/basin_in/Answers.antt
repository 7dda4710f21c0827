-- `basin_in` meets its contract: the numbers in front of the scratch space are the outline's.
use mathlib.Core.Path.{sym, ap, ◌∙◌}
use lib.Seq.{length-take-le}
use Rattle.basin.specs.Basin.{basin_of}
use Rattle.spargolutta.proofs.Listed.{decoded_front, decoded_room}
use Rattle.spargolutta.proofs.outline.basin_in.Goals as goal

pub slice_bounds-check_basin-end : goal.slice_bounds-check_basin-end
slice_bounds-check_basin-end c = decoded_room _ _ _ c.decode.ensures

pub slice_bounds-check_basin-end-2 : goal.slice_bounds-check_basin-end-2
slice_bounds-check_basin-end-2 c = sym (length-take-le _ _ (decoded_room _ _ _ c.decode.ensures))

pub returns : goal.returns
returns c =
    let d = c.decode.ensures in
    record {
      value = c.check_basin.ensures ∙ ap (basin_of c.args.grid) (decoded_front c.args.vertices.now _ _ d);
      scratch_after = d;
    }

-- `compare_read` meets its contract: the rings that are compared are those of accepted sheets.
use Rattle.compare.proofs.Laws.Sheets.{ring_sound}
use Rattle.compare.proofs.compare_read.Goals as goal

pub place_ring-ring-requires : goal.place_ring-ring-requires
place_ring-ring-requires c = (
  ring_sound _ c.requires.0.checked c.ring_in.ensures,
  ring_sound _ c.requires.1.checked c.ring_in-2.ensures,
)

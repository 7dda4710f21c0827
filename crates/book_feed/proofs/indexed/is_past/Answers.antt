-- `is_past` is safe: the dot product of points of the fine grid fits.
use Rattle.sphere.proofs.Laws.Grid.{points_dot}
use Rattle.book_feed.proofs.indexed.is_past.Goals as goal

pub dot-requires : goal.dot-requires
dot-requires c = points_dot c.requires.0 c.requires.1

-- `tally_near` meets its contract: what is gathered is complete for the query.
use Rattle.cones.proofs.Laws.Covers.{entries}
use Rattle.cones.proofs.Laws.Close.{near_complete}
use Rattle.cones.proofs.told.tally_near.Goals as goal

pub gather-end-requires-clause-n_in_bounds : goal.gather-end-requires-clause-n_in_bounds
gather-end-requires-clause-n_in_bounds c = (c.requires.telling.room, entries c.requires.complete.covers)

pub walk_near-requires-clause-complete : goal.walk_near-requires-clause-complete
walk_near-requires-clause-complete c = near_complete c.requires.telling c.requires.complete c.gather-end.ensures

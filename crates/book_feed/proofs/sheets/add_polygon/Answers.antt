-- `add_polygon` meets its contract.
use Rattle.book_feed.proofs.Laws.Sheets.{gridded_of}
use Rattle.book_feed.proofs.sheets.add_polygon.Goals as goal

pub planes_of-planes-requires : goal.planes_of-planes-requires
planes_of-planes-requires c = (gridded_of c.args.grid _ _ _ c.requires.second_value.0).0

pub away-back-requires : goal.away-back-requires
away-back-requires c = gridded_of c.args.grid _ _ _ c.requires.second_value.0

pub add_each-requires : goal.add_each-requires
add_each-requires c =
    record {
      second_value = c.requires.second_value;
      sound = (c.planes_of-planes.ensures, rw c.away-back.ensures at c.judge_boxed-far.ensures.0);
      zone_bound = c.requires.zone_bound;
    }

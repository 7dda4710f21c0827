-- `add_each` meets its contract, with an index or none.
use Rattle.cones.proofs.Laws.Index.{none_on}
use Rattle.book_feed.proofs.indexed.add_each.Goals as goal

pub is_worth-requires : goal.is_worth-requires
is_worth-requires c =
    c.requires.sound.0

pub add_by_index-requires : goal.add_by_index-requires
add_by_index-requires c =
    rw c.in-Coarse.is at c.requires

pub returns-in-Coarse : goal.returns-in-Coarse
returns-in-Coarse c =
    rw c.in-Coarse.is c.add_by_index.ensures

pub add_by_index-requires-in-Fine : goal.add_by_index-requires-in-Fine
add_by_index-requires-in-Fine c =
    rw c.in-Fine.is at c.requires

pub returns-in-Fine : goal.returns-in-Fine
returns-in-Fine c =
    rw c.in-Fine.is c.add_by_index-in-Fine.ensures

pub add_judged-requires : goal.add_judged-requires
add_judged-requires c =
    record {
      second_value = c.requires.second_value;
      index_on = rw c.no_index.ensures (none_on _ _ _ _ _);
      sound = c.requires.sound;
      zone_bound = c.requires.zone_bound;
    }

pub returns : goal.returns
returns c = c.add_judged.ensures

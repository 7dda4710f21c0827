-- `judge_each` meets its contract, with an index or none.
use Rattle.cones.proofs.Laws.Index.{none_on}
use Rattle.feed.proofs.judge_each.Goals as goal

pub judge_by_index-requires : goal.judge_by_index-requires
judge_by_index-requires c =
    rw c.in-Coarse.is at c.requires

pub returns-in-Coarse : goal.returns-in-Coarse
returns-in-Coarse c =
    rw c.in-Coarse.is c.judge_by_index.ensures

pub judge_by_index-requires-in-Fine : goal.judge_by_index-requires-in-Fine
judge_by_index-requires-in-Fine c =
    rw c.in-Fine.is at c.requires

pub returns-in-Fine : goal.returns-in-Fine
returns-in-Fine c =
    rw c.in-Fine.is c.judge_by_index-in-Fine.ensures

pub judge_all-requires : goal.judge_all-requires
judge_all-requires c =
    record {
      second_value = c.requires.second_value;
      index_on = rw c.no_index.ensures (none_on _ _ _ _ _);
      queries_in_bounds = c.requires.queries_in_bounds;
    }

pub returns : goal.returns
returns c = c.judge_all.ensures

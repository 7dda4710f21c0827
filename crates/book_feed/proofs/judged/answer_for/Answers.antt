-- `answer_for` meets its contract.
use Rattle.book_feed.proofs.Laws.Sheets.{known_fine}
use Rattle.book_feed.proofs.Laws.Verdicts.{same_refl, separated_sets}
use Rattle.book_feed.proofs.judged.answer_for.Goals as goal

pub is_separated-requires : goal.is_separated-requires
is_separated-requires c =
    (c.requires.sound.0, known_fine c.args.grid _ _ _ c.requires.second_value.0)

pub returns-then-is_separated : goal.returns-then-is_separated
returns-then-is_separated c =
    rw c.requires.sound.1 (separated_sets _ _ _ _ _ c.requires.second_value.0 (c.is_separated.ensures c.if-is_separated.true))

pub judge_indexed-requires : goal.judge_indexed-requires
judge_indexed-requires c =
    record {
      second_value = c.requires.second_value;
      index_on = c.requires.index_on;
    }

pub returns : goal.returns
returns c = rw c.judge_indexed.ensures (same_refl _)

-- `put_long` meets its contract.
use mathlib.Core.Path.{◌∙◌}
use Rattle.book_feed.proofs.Laws.Records.{long_stored}
use Rattle.book_feed.proofs.records.put_long.Goals as goal

pub returns : goal.returns
returns c =
    let first = rw c.high.ensures at c.put_word.ensures in
    let second = rw (c.low.ensures, first) at c.put_word-2.ensures in
    second ∙ long_stored _ _ _

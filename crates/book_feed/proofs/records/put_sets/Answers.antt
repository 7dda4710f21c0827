-- `put_sets` meets its contract.
use mathlib.Core.Path.{◌∙◌}
use Rattle.book.specs.Sets.{found_of}
use Rattle.book_feed.proofs.Laws.Records.{record_stored}
use Rattle.book_feed.proofs.records.put_sets.Goals as goal

pub returns : goal.returns
returns c =
    let s = c.args in
    let b = rw c.put_long.ensures at c.put_long-2.ensures in
    let d = rw b at c.put_long-3.ensures in
    d ∙ record_stored s.b.now s.at (found_of s.zones)

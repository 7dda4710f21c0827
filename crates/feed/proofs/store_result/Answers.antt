-- `store_result` meets its contract.
use mathlib.Core.Path.{◌∙◌}
use Rattle.feed.proofs.Laws.Results.{result_stored}
use Rattle.feed.proofs.store_result.Goals as goal

pub returns : goal.returns
returns c =
    let s = c.args in
    let n = rw c.number.ensures at c.put_word.ensures in
    let p = rw (c.place.ensures, n) at c.put_word-2.ensures in
    let k = rw (c.count.ensures, p) at c.put_word-3.ensures in
    k ∙ result_stored s.results.now s.at s.answer

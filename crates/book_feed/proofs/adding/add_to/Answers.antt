-- `add_to` meets its contract: where the answer names no set, the bytes that stand there are those to be stored.
use mathlib.Core.Path.{sym, ap, ◌∙◌}
use lib.Seq.{sets}
use Rattle.book.specs.declared.sets.Sets.{Sets}
use Rattle.book.specs.Sets.{found_of}
use Rattle.book_feed.specs.Records.{sets_in, record_bytes}
use Rattle.book_feed.proofs.Laws.Records.{record_bytes-length}
use Rattle.book_feed.proofs.Laws.Adding.{none_added, sets_same}
use Rattle.book_feed.proofs.adding.add_to.Goals as goal

pub returns-then-holds_none : goal.returns-then-holds_none
returns-then-holds_none c =
    let h = c.requires.1 in
    let e = none_added (sets_in c.args.results.now c.args.at) c.args.zone c.args.answer
    (sym c.holds_none.ensures ∙ c.if-holds_none.true) in
    sym (ap (λ (z : Sets). sets c.args.results.now c.args.at (record_bytes (found_of z))) e
    ∙ sets_same c.args.results.now c.args.at 24 _ (record_bytes-length _) h.room h.bytes)

pub returns : goal.returns
returns c = c.put_zone.ensures

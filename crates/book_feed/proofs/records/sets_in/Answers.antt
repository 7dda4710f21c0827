-- `sets_in` meets its contract.
use Rattle.book_feed.proofs.records.sets_in.Goals as goal

pub returns : goal.returns
returns c = λ i. record {
  inside = c.long_at.ensures i;
  boundary = c.long_at-2.ensures i;
  refused = c.long_at-3.ensures i;
}

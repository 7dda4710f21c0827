-- `long_at` meets its contract.
use Rattle.book_feed.specs.Records.{long_at}
use Rattle.book_feed.proofs.records.long_at.Goals as goal

pub returns : goal.returns
unfolding long_at
returns c = cc

-- `run_end` meets its contract.
use borrow.Author.Tests.{lt-ltb, le-ltb}
use Rattle.search.specs.Boxes.{run_end}
use Rattle.search.proofs.boxes.run_end.Goals as goal

pub returns-then-end-n : goal.returns-then-end-n
unfolding run_end
returns-then-end-n c = rw (lt-ltb _ _ c.if-end-n.true)

pub returns : goal.returns
unfolding run_end
returns c = rw (le-ltb _ _ c.if-end-n.false)

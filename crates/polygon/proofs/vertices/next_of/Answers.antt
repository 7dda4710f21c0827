-- `next_of` meets its contract.
use borrow.Author.Tests.{lt-ltb, le-ltb}
use Rattle.polygon.specs.Vertices.{next_of}
use Rattle.polygon.proofs.vertices.next_of.Goals as goal

pub returns-then-next-n : goal.returns-then-next-n
unfolding next_of
returns-then-next-n c = rw (lt-ltb _ _ c.if-next-n.true)

pub returns : goal.returns
unfolding next_of
returns c = rw (le-ltb _ _ c.if-next-n.false)

-- `is_surely` meets its contract: the machine's constant is 2^29.
use mathlib.Core.Path.{ap}
use lib.Ieee.{lt, neg}
use Rattle.sphere.specs.Approximate.{is_surely}
use Rattle.sphere.proofs.Laws.Approximate.{margin_bits}
use Rattle.sphere.proofs.approximate.is_surely.Goals as goal

pub returns-then-above : goal.returns-then-above
unfolding is_surely
returns-then-above c = rw c.if-above.true (ap (λ m. lt m c.before.args.turn) margin_bits)

pub returns : goal.returns
unfolding is_surely
returns c = rw c.if-above.false (ap (λ m. lt c.before.args.turn (neg m)) margin_bits)

-- `calls::read`: the buffer keeps its length while a read is tried again.
use Rattle.std.proofs.Common.{◌-◌, ◌≡◌, length}
use Rattle.zone_judge.proofs.calls.read.Given as goal

abbrev pub invariant-loop-tries : goal.invariant-loop-tries
invariant-loop-tries g l = length l.buf ≡ length l.fn.buf

abbrev pub decreases-loop-tries : goal.decreases-loop-tries
decreases-loop-tries g l = 18000000000000000000 - l.tries

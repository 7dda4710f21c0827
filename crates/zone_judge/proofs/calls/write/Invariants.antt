-- `calls::write` ends: the tries are counted.
use Rattle.std.proofs.Common.{◌-◌}
use Rattle.zone_judge.proofs.calls.write.Given as goal

abbrev pub decreases-loop-tries : goal.decreases-loop-tries
decreases-loop-tries g l = 18000000000000000000 - l.tries

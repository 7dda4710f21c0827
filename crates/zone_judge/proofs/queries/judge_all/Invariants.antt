-- The buffers keep their lengths, and each turn answers a query.
use Rattle.std.proofs.Common.{◌-◌, ◌≡◌, length}
use Rattle.zone_judge.proofs.queries.judge_all.Given as goal

abbrev pub invariant-loop-done : goal.invariant-loop-done
invariant-loop-done g l = (length l.piece ≡ 49152) × ((length l.results ≡ 49152) × (length l.out ≡ 258048))

abbrev pub decreases-loop-done : goal.decreases-loop-done
decreases-loop-done g l = 18000000000000000000 - l.done

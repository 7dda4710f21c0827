-- `decimals::decimals` meets its contract.
use mathlib.Core.Path.{◌≡◌}
use Prim.Native.Nat.{◌+◌, ◌-◌}
use lib.ListN.{length}
use Rattle.positions.specs.Number.{Small, onward, DigitRun}
use Rattle.positions.proofs.decimals.decimals.Given as goal

abbrev pub invariant-loop-k : goal.invariant-loop-k
invariant-loop-k l = Small l.p × DigitRun l.text l.from l.k × (l.p ≡ onward l.text l.from l.initial.p l.k)

abbrev pub decreases-loop-k : goal.decreases-loop-k
decreases-loop-k l = length l.text - (l.from + l.k)

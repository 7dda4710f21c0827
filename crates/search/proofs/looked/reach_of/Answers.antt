-- `reach_of` meets its contract.
use Prim.Native.Nat.{◌<◌}
use native.Mathlib.Numerals.{add-one}
use native.Mathlib.Omega.{arith}
use Rattle.search.proofs.looked.reach_of.Goals as goal
use Rattle.search.proofs.looked.reach_of.Goals.{In-Held}

-- The edge is one of n.
among : (c : In-Held) → c.in-Held.edge < c.args.n
among c = rw c.in-Held.is at c.requires.1

pub overflow_add-result : goal.overflow_add-result
overflow_add-result c = omega (arith, among c, c.requires.0)

pub returns-in-Held : goal.returns-in-Held
returns-in-Held c = rw (c.in-Held.is, add-one)

-- `copy` meets its contract: the entries passed stand from `at` on, and those before `at` stay.
use mathlib.Core.Path.{◌≡◌}
use mathlib.Core.Bool.{Bool, false}
use mathlib.Core.List.{List}
use Prim.Native.Nat.{ℕ, ◌+◌, ◌-◌, ◌≤◌, ◌<◌}
use lib.ListN.{length, get_or}
use Rattle.cones.specs.Lists.{Kept}
use Rattle.cones.proofs.table.copy.Given as goal

abbrev pub never : ℕ → Bool
never j = false

pub record Copying (s l m : List ℕ) (from to at e : ℕ) : Type 0 where
  pub room : length m ≡ length l
  pub after : from ≤ e
  pub within : e ≤ to
  pub before : (x : ℕ) → x < at → get_or m x 0 ≡ get_or l x 0
  pub kept : Kept never s m from at e (at + (e - from))

abbrev pub invariant-loop-e : goal.invariant-loop-e
invariant-loop-e l = Copying l.stack l.initial.list l.list l.from l.to l.at l.e

abbrev pub decreases-loop-e : goal.decreases-loop-e
decreases-loop-e l = l.to - l.e

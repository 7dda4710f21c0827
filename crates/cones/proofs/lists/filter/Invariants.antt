-- `filter` meets its contract: what is kept of the entries passed stands behind `to`, and the entries before `to` stay.
use mathlib.Core.Bool.{Bool}
use mathlib.Core.List.{List}
use Prim.Native.Nat.{ℕ, ◌+◌, ◌-◌, ◌≤◌}
use Rattle.azimuths.specs.Sectors.{is_missed}
use Rattle.cones.specs.Lists.{Kept, Framed}
use Rattle.cones.proofs.lists.filter.Given as goal

-- Before entry e.
pub record Filtering (test : ℕ → Bool) (l m : List ℕ) (from to end passed e : ℕ) : Type 0 where
  pub framed : Framed l m to
  pub after : from ≤ e
  pub within : e ≤ to
  pub least : to ≤ end
  pub few : end ≤ to + (e - from)
  pub hint : passed ≤ e - from
  pub kept : Kept test l m from to e end

abbrev pub invariant-loop-e : goal.invariant-loop-e
invariant-loop-e l =
    Filtering (is_missed l.sectors l.lo l.last) l.initial.list l.list l.from l.to l.end l.passed l.e

abbrev pub decreases-loop-e : goal.decreases-loop-e
decreases-loop-e l = l.to - l.e

-- `first_list` meets its contract: each edge before i is on the list, or spans no azimuth of the range.
use mathlib.Core.Path.{◌≡◌}
use mathlib.Core.List.{List}
use Prim.Native.Nat.{ℕ, ◌-◌, ◌≤◌}
use lib.ListN.{length}
use Rattle.azimuths.specs.Sectors.{MissedIn}
use Rattle.cones.specs.Cones.{Covers}
use Rattle.cones.proofs.lists.first_list.Given as goal

-- Before edge i.
pub record Listing (missed : ℕ → Type 0) (n : ℕ) (l₀ l : List ℕ) (end i : ℕ) : Type 0 where
  pub room : length l ≡ length l₀
  pub few : end ≤ i
  pub within : i ≤ n
  pub all : Covers missed l 0 i end

abbrev pub invariant-loop-i : goal.invariant-loop-i
invariant-loop-i l = Listing (MissedIn l.sectors l.lo l.last) l.n l.initial.list l.list l.end l.i

abbrev pub decreases-loop-i : goal.decreases-loop-i
decreases-loop-i l = l.n - l.i

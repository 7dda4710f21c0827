-- `grow_roots` meets its contract: the nodes of the cones so far, and arrays that keep their lengths.
use mathlib.Core.Path.{◌≡◌}
use mathlib.Core.List.{List}
use Prim.Native.Nat.{ℕ, ◌-◌, ◌≤◌}
use lib.ListN.{length}
use Rattle.cones.specs.Table.{Indexed}
use Rattle.cones.proofs.build.grow_roots.Given as goal

-- Before cone r.
pub record Grown (n : ℕ) (sectors table₀ list₀ stack₀ table list stack : List ℕ) (nodes top r : ℕ) : Type 0 where
  pub most : r ≤ 4
  pub indexed : Indexed n sectors table list nodes top
  pub same_table : length table ≡ length table₀
  pub same_list : length list ≡ length list₀
  pub same_stack : length stack ≡ length stack₀

abbrev pub invariant-loop-r : goal.invariant-loop-r
invariant-loop-r l =
    Grown l.n l.sectors l.initial.table l.initial.list l.initial.stack l.table l.list l.stack l.size.nodes l.size.top l.r

abbrev pub decreases-loop-r : goal.decreases-loop-r
decreases-loop-r l = 4 - l.r

-- `mark_edges` meets its contract: the edges from j on, before the next that does, do not join the two.
use mathlib.Core.Path.{◌≡◌}
use mathlib.Core.List.{List}
use Prim.Native.Nat.{ℕ, ◌-◌, ◌≤◌}
use lib.IntN.{ℤ}
use Rattle.sphere.specs.declared.point.Point.{Point}
use Rattle.answer.specs.Search.{count_from}
use Rattle.polygon.specs.Border.{is_coincident}
use Rattle.corridors.specs.Marked.{Marked}
use Rattle.corridors.proofs.border.mark_edges.Given as goal

pub record Counted (vs : List ℤ) (C D : Point) (from to : ℕ) (marks now : List ℕ) (count j : ℕ) : Type 0 where
  pub after : from ≤ j
  pub before : j ≤ to
  pub counted : count_from (is_coincident vs C D) from (j - from) ≡ count
  pub marked : Marked (is_coincident vs C D) from j marks now

abbrev pub invariant-loop-edge : goal.invariant-loop-edge
invariant-loop-edge l = Counted l.vertices l.c l.d l.from l.to l.initial.marks l.marks l.count l.j

abbrev pub decreases-loop-edge : goal.decreases-loop-edge
decreases-loop-edge l = l.to - l.j

-- The examples of specs/Examples, computed. Proved, in order: octant_redrawn, corridor_redrawn.
use mathlib.Core.Path.{refl}
use lib.IntN.{pos}
use Rattle.integers.proofs.Sign.{gt, ge, allows_is}
use Rattle.sphere.specs.Point.{is_null}
use Rattle.sphere.specs.Orientation.{orientation_of, cross_of, dot_of}
use Rattle.sphere.specs.Direction.{is_same_direction}
use Rattle.polygon.specs.Border.{joins_of, coincident_of}
use Rattle.answer.specs.Search.{count_from}
use Rattle.polygon.specs.Vertices.{vertex_at, next_of}
use Rattle.polygon.specs.Charts.{octant}
use Rattle.redraw.specs.Redraw.{started_at, Addable, added_from, added_to}
use Rattle.redraw.specs.Examples.{middle, OctantRedrawn, CorridorRedrawn}
use native.Mathlib.Omega.{arith}

octant_addable : Addable octant 0 middle
unfolding coincident_of count_from vertex_at next_of joins_of is_same_direction is_null cross_of dot_of orientation_of
octant_addable = record {
  edge = omega arith;
  amid = record {
    some = refl;
    on = record {
      level = refl;
      k = pos 1;
      a = pos 1;
      b = pos 1;
      k_positive = allows_is gt (pos 1) tt;
      a_fraction = allows_is ge (pos 1) tt;
      b_fraction = allows_is ge (pos 1) tt;
      at_x = refl;
      at_y = refl;
      at_z = refl;
    };
    not_start = refl;
    not_end = refl;
  };
  no_front = refl;
  no_back = refl;
}

pub octant_redrawn : OctantRedrawn
unfolding started_at added_to added_from vertex_at next_of joins_of is_same_direction is_null cross_of dot_of
octant_redrawn = (refl, octant_addable, refl)

pub corridor_redrawn : CorridorRedrawn
unfolding added_to added_from vertex_at next_of joins_of is_same_direction is_null cross_of dot_of
corridor_redrawn = refl

-- Laws of a plane. Proved, in order: grid→fine (a point of either grid is one of the fine grid), plane_sound; range_at,
-- point_at_lem, fine_exact (what is known where the grid is); plane_made, made_within, made_turn (of a plane through two
-- points). Defined: Made.
use mathlib.Core.Path.{◌≡◌, sym, ap, ◌∙◌, subst}
use Rattle.sphere.specs.declared.point.Point.{Point}
use Rattle.sphere.specs.declared.point.Grid.{Grid}
use Rattle.sphere.specs.declared.point.Grid.TheVariants.{Coarse, Fine}
use Rattle.sphere.specs.declared.plane.Plane.{Plane}
use Rattle.sphere.specs.Point.{fine, limit_of, minors, Within}
use Rattle.sphere.specs.Orientation.{orientation_of, cross_of, dot_of}
use Rattle.sphere.specs.Approximate.{Exactly}
use Rattle.sphere.specs.Plane.{plane_of, FloatsFor, Sound}
use Rattle.sphere.proofs.Laws.Orientation.{orientation_cross, dot_comm}
use Rattle.sphere.proofs.Laws.Grid.{coarse→fine, cross_within}
use Rattle.sphere.proofs.Laws.Approximate.{cross_exact}

pub grid→fine : (g : Grid) {p : Point} → Within (limit_of g) p → Within fine p
grid→fine Coarse w = coarse→fine w
grid→fine Fine w = w

pub plane_sound : (g : Grid) (A B : Point) → Within (limit_of g) A → Within (limit_of g) B → Sound (plane_of g A B)
unfolding plane_of
plane_sound Coarse A B a b = record { in_range = cross_within A B a b; exact = tt }
plane_sound Fine A B a b = record { in_range = cross_within A B a b; exact = cross_exact A B a b }

-- ---- by the grid
module _ (p : Plane) {g : Grid} (e : p.grid ≡ g) where
  pub range_at : Sound p → Within (minors (limit_of g)) p.normal
  range_at s = subst (λ h. Within (minors (limit_of h)) p.normal) e s.in_range

  pub point_at_lem : {c : Point} → Within (limit_of p.grid) c → Within (limit_of g) c
  point_at_lem {c} w = subst (λ h. Within (limit_of h) c) e w

pub fine_exact : (p : Plane) → p.grid ≡ Fine → Sound p → Exactly p.floats p.normal
fine_exact p e s = subst (λ h. FloatsFor h p.floats p.normal) e s.exact

-- What is known of a plane that was made through A and B.
pub record Made (g : Grid) (A B : Point) (p : Plane) : Type 0 where
  pub grid_is : p.grid ≡ g
  pub normal_is : p.normal ≡ cross_of A B
  pub sound : Sound p

pub plane_made : (g : Grid) (A B : Point) {p : Plane} → Within (limit_of g) A → Within (limit_of g) B →
    p ≡ plane_of g A B → Made g A B p
unfolding plane_of
plane_made g A B a b e = record {
  grid_is = ap (λ p. p.grid) e;
  normal_is = ap (λ p. p.normal) e;
  sound = subst Sound (sym e) (plane_sound g A B a b);
}

module _ {g : Grid} {A B : Point} {p : Plane} (m : Made g A B p) where
  pub made_within : {c : Point} → Within (limit_of g) c → Within (limit_of p.grid) c
  made_within {c} w = subst (λ h. Within (limit_of h) c) (sym m.grid_is) w

  -- The side of the plane through A and B is the turn of the three points.
  pub made_turn : (C : Point) → dot_of p.normal C ≡ orientation_of A B C
  made_turn C = ap (λ n. dot_of n C) m.normal_is ∙ dot_comm (cross_of A B) C ∙ sym (orientation_cross A B C)

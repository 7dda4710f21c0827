-- `plane` meets its contract: each need says that one part of a component fits.
use Rattle.std.proofs.Common.{◌≤◌, ℤ, pos, nat_abs, sym, subst, le_refl}
use Rattle.integers.proofs.Range.{Formula, number, ◌⊗◌, ◌⊖◌, formula_fits, formula_same, formula_is}
use Rattle.sphere.specs.declared.point.Point.{Point}
use Rattle.sphere.specs.Point.{Fits, Within}
use Rattle.sphere.proofs.Numbers.{x_of, y_of, z_of}
use Rattle.separation.specs.Planes.{steep}
use Rattle.separation.specs.Axes.{unit, plane_of}
use Rattle.separation.proofs.axes.plane.Goals as goal

abbrev U : Formula
U = number (pos unit) unit (le_refl unit)

module _ {e d : Point} {l : ℤ} (h : (Within 1 e × Within 1 d) × Fits unit l) where
  abbrev K : Formula
  K = number l unit h.1.within

  abbrev x : Formula
  x = U ⊗ x_of h.0.0 ⊖ K ⊗ x_of h.0.1

  abbrev y : Formula
  y = U ⊗ y_of h.0.0 ⊖ K ⊗ y_of h.0.1

  abbrev z : Formula
  z = U ⊗ z_of h.0.0 ⊖ K ⊗ z_of h.0.1

pub overflow_sub-result : goal.overflow_sub-result
overflow_sub-result c = formula_fits (x c.requires) tt

pub overflow_mul-result-4 : goal.overflow_mul-result-4
overflow_mul-result-4 c = formula_fits (K c.requires ⊗ y_of c.requires.0.1) tt

pub overflow_sub-result-2 : goal.overflow_sub-result-2
overflow_sub-result-2 c = formula_fits (y c.requires) tt

pub overflow_mul-result-6 : goal.overflow_mul-result-6
overflow_mul-result-6 c = formula_fits (K c.requires ⊗ z_of c.requires.0.1) tt

pub overflow_sub-result-3 : goal.overflow_sub-result-3
overflow_sub-result-3 c = formula_fits (z c.requires) tt

pub returns : goal.returns
unfolding plane_of
returns c =
    let h = c.requires in
    let a = formula_same (x h) tt in
    let b = formula_same (y h) tt in
    let d = formula_same (z h) tt in (
      cc (a, b, d),
      record {
        at_x = record { within = subst (λ k. nat_abs k ≤ steep) (sym a) (formula_is (x h) tt).size };
        at_y = record { within = subst (λ k. nat_abs k ≤ steep) (sym b) (formula_is (y h) tt).size };
        at_z = record { within = subst (λ k. nat_abs k ≤ steep) (sym d) (formula_is (z h) tt).size };
      },
    )

-- `cross` meets its contract: each need says that one part of a component fits.
use Rattle.integers.proofs.Range.{Formula, ◌⊗◌, ◌⊖◌, formula_fits, formula_same}
use Rattle.sphere.specs.Point.{fine, Within}
use Rattle.sphere.specs.Orientation.{cross_of}
use Rattle.sphere.proofs.Numbers.{x_of, y_of, z_of}
use Rattle.sphere.proofs.orientation.cross.Goals as goal
use Rattle.sphere.proofs.orientation.cross.Goals.{After-struct_told-6-1}
use Rattle.sphere.proofs.orientation.cross.Lts as lts
use Rattle.sphere.proofs.orientation.cross.Reads as reads

abbrev Start : Type 0
Start = lts.Start reads.Pre reads.Post

-- All needs are asked at one place, after the six numbers were read: A and B there, and the three components.
module _ (c : After-struct_told-6-1) where
  abbrev start : Start
  start = c.before.before.before.before.before.before

  abbrev A : Within fine start.args.a
  A = start.requires.0

  abbrev B : Within fine start.args.b
  B = start.requires.1

  abbrev x : Formula
  x = y_of A ⊗ z_of B ⊖ z_of A ⊗ y_of B

  abbrev y : Formula
  y = z_of A ⊗ x_of B ⊖ x_of A ⊗ z_of B

  abbrev z : Formula
  z = x_of A ⊗ y_of B ⊖ y_of A ⊗ x_of B

pub overflow_sub-result : goal.overflow_sub-result
overflow_sub-result c = formula_fits (x c) tt

pub overflow_mul-result-3 : goal.overflow_mul-result-3
overflow_mul-result-3 c = formula_fits (z_of (A c) ⊗ x_of (B c)) tt

pub overflow_mul-result-4 : goal.overflow_mul-result-4
overflow_mul-result-4 c = formula_fits (x_of (A c) ⊗ z_of (B c)) tt

pub overflow_sub-result-2 : goal.overflow_sub-result-2
overflow_sub-result-2 c = formula_fits (y c) tt

pub overflow_mul-result-5 : goal.overflow_mul-result-5
overflow_mul-result-5 c = formula_fits (x_of (A c) ⊗ y_of (B c)) tt

pub overflow_mul-result-6 : goal.overflow_mul-result-6
overflow_mul-result-6 c = formula_fits (y_of (A c) ⊗ x_of (B c)) tt

pub overflow_sub-result-3 : goal.overflow_sub-result-3
overflow_sub-result-3 c = formula_fits (z c) tt

pub returns : goal.returns
unfolding cross_of
returns c = cc (formula_same (x c) tt, formula_same (y c) tt, formula_same (z c) tt)

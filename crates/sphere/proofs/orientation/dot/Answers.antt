-- `dot` meets its contract: each need says that one part of the formula fits.
use Prim.Native.Nat.{ℕ, ◌+◌, ◌*◌, ◌^◌, ◌≤◌, ◌<◌}
use native.Mathlib.Omega.{arith}
use lib.Dec.{T, lt→ltb}
use lib.IntN.{ℤ, nat_abs}
use Rattle.integers.proofs.Range.{mul, add, Formula, ◌⊗◌, ◌⊕◌, is_small, formula_fits, formula_same}
use Rattle.integers.proofs.Range.{number, small_apply}
use Rattle.sphere.specs.declared.point.Point.{Point}
use Rattle.sphere.specs.Point.{Within, FitsDot}
use Rattle.sphere.specs.Orientation.{dot_of}
use Rattle.sphere.proofs.Numbers.{x_of, y_of, z_of}
use Rattle.sphere.proofs.orientation.dot.Goals as goal
use Rattle.sphere.proofs.orientation.dot.Goals.{After-struct_told-6-1}
use Rattle.sphere.proofs.orientation.dot.Lts as lts
use Rattle.sphere.proofs.orientation.dot.Reads as reads

abbrev Start : Type 0
Start = lts.Start reads.Pre reads.Post

-- The sums in their order, and that they are small.
module _ {p q : Point} (f : FitsDot p q) where
  abbrev A : Within f.m p
  A = f.first

  abbrev B : Within f.n q
  B = f.second

  abbrev two : Formula
  two = x_of A ⊗ x_of B ⊕ y_of A ⊗ y_of B

  abbrev three : Formula
  three = two ⊕ z_of A ⊗ z_of B

  abbrev most : ℕ
  most = f.m * f.n

  product_small : (z u : ℤ) (h : nat_abs z ≤ f.m) (k : nat_abs u ≤ f.n) →
      T (is_small (number z f.m h ⊗ number u f.n k))
  product_small z u h k =
      let s = f.small in
      small_apply mul (number z f.m h) (number u f.n k) (omega arith) (lt→ltb f.m (2 ^ 63) (omega arith))
      (lt→ltb f.n (2 ^ 63) (omega arith))

  x_small : T (is_small (x_of A ⊗ x_of B))
  x_small = product_small p.x q.x A.at_x.within B.at_x.within

  y_small : T (is_small (y_of A ⊗ y_of B))
  y_small = product_small p.y q.y A.at_y.within B.at_y.within

  z_small : T (is_small (z_of A ⊗ z_of B))
  z_small = product_small p.z q.z A.at_z.within B.at_z.within

  sum_small : most + most < 2 ^ 63
  sum_small = let s = f.small in omega arith

  all_small : most + most + most < 2 ^ 63
  all_small = let s = f.small in omega arith

  two_small : T (is_small two)
  two_small = small_apply add (x_of A ⊗ x_of B) (y_of A ⊗ y_of B) sum_small x_small y_small

  three_small : T (is_small three)
  three_small = small_apply add two (z_of A ⊗ z_of B) all_small two_small z_small

-- All needs are asked at one place, after the six numbers were read.
module _ (c : After-struct_told-6-1) where
  abbrev start : Start
  start = c.before.before.before.before.before.before

  abbrev given : FitsDot start.args.a start.args.b
  given = start.requires

pub overflow_mul-result : goal.overflow_mul-result
overflow_mul-result c = formula_fits (x_of (A (given c)) ⊗ x_of (B (given c))) (x_small (given c))

pub overflow_mul-result-2 : goal.overflow_mul-result-2
overflow_mul-result-2 c = formula_fits (y_of (A (given c)) ⊗ y_of (B (given c))) (y_small (given c))

pub overflow_add-result : goal.overflow_add-result
overflow_add-result c = formula_fits (two (given c)) (two_small (given c))

pub overflow_mul-result-3 : goal.overflow_mul-result-3
overflow_mul-result-3 c = formula_fits (z_of (A (given c)) ⊗ z_of (B (given c))) (z_small (given c))

pub overflow_add-result-2 : goal.overflow_add-result-2
overflow_add-result-2 c = formula_fits (three (given c)) (three_small (given c))

pub returns : goal.returns
unfolding dot_of
returns c = formula_same (three (given c)) (three_small (given c))

-- `sum_of` meets its contract: each need says that one part of the formula fits.
use mathlib.Core.Path.{◌∙◌}
use Rattle.integers.proofs.Identity.{◌:+◌, ◌:-◌, ◌:*◌, ◌:=◌}
use Rattle.integers.proofs.Range.{Formula, ◌⊗◌, ◌⊖◌, formula_fits, formula_same}
use Rattle.sphere.specs.Point.{fine, Within}
use Rattle.sphere.specs.Orientation.{cross_of}
use Rattle.sphere.proofs.Numbers.{x_of, y_of, z_of}
use Rattle.sphere.proofs.Vectors.{cross_e, vecs}
use Rattle.corridors.proofs.border.sum_of.Goals as goal
use Rattle.corridors.proofs.border.sum_of.Goals.{After-struct_told-4-1}
use Rattle.corridors.proofs.border.sum_of.Lts as lts
use Rattle.corridors.proofs.border.sum_of.Reads as reads

abbrev Start : Type 0
Start = lts.Start reads.Pre reads.Post

-- The two points, and the parts.
module _ (s : Start) where
  abbrev C : Within fine s.args.c
  C = s.requires.0

  abbrev P : Within fine s.args.p
  P = s.requires.1

  abbrev first : Formula
  first = (x_of C ⊖ z_of C) ⊗ (y_of P ⊖ z_of P)

  abbrev second : Formula
  second = (y_of C ⊖ z_of C) ⊗ (x_of P ⊖ z_of P)

pub overflow_sub-result : goal.overflow_sub-result
overflow_sub-result c = let s = c.before.before.before in formula_fits (x_of (C s) ⊖ z_of (C s)) tt

pub overflow_sub-result-2 : goal.overflow_sub-result-2
overflow_sub-result-2 c = let s = c.before.before.before.before.before in formula_fits (y_of (P s) ⊖ z_of (P s)) tt

pub overflow_mul-result : goal.overflow_mul-result
overflow_mul-result c = let s = c.before.before.before.before.before in formula_fits (first s) tt

pub overflow_sub-result-3 : goal.overflow_sub-result-3
overflow_sub-result-3 c = let s = c.before.before.before.before.before.before.before in formula_fits (y_of (C s) ⊖ z_of (C s)) tt

-- After all six numbers were read.
abbrev end : After-struct_told-4-1 → Start
end c = c.before.before.before.before.before.before.before.before

pub overflow_sub-result-4 : goal.overflow_sub-result-4
overflow_sub-result-4 c = let s = end c in formula_fits (x_of (P s) ⊖ z_of (P s)) tt

pub overflow_mul-result-2 : goal.overflow_mul-result-2
overflow_mul-result-2 c = formula_fits (second (end c)) tt

pub overflow_sub-result-5 : goal.overflow_sub-result-5
overflow_sub-result-5 c = let s = end c in formula_fits (first s ⊖ second s) tt

pub returns : goal.returns
unfolding cross_of
returns c =
    let s = end c in
    formula_same (first s ⊖ second s) tt
    ∙ vecs 2 (λ c p. (c.x :- c.z) :* (p.y :- p.z) :- (c.y :- c.z) :* (p.x :- p.z)
    := (cross_e c p).x :+ (cross_e c p).y :+ (cross_e c p).z) tt s.args.c s.args.p

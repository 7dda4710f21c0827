-- `away` meets its contract.
use Rattle.std.proofs.Common.{◌≡◌, ◌≤◌, List, ℤ, pos, ◌-ℤ◌, neg_ℤ, ap, ◌∙◌, arith, le_refl}
use Rattle.integers.proofs.Polynomial.{con, neg}
use Rattle.integers.proofs.Identity.{◌:-◌, ◌:=◌, ints}
use Rattle.integers.proofs.Range.{Formula, number, ◌⊖◌, formula_fits, formula_same}
use Rattle.sphere.specs.Point.{fine, Fits, Within}
use Rattle.polygon.specs.Vertices.{vertices_count, vertex_at}
use Rattle.polygon.specs.Accepted.{Gridded}
use Rattle.separation.specs.Separation.{reverse}
use Rattle.separation.proofs.planes.away.Goals as goal

corner : (vs : List ℤ) → Gridded fine vs × (3 ≤ vertices_count vs) → Within fine (vertex_at vs 0)
corner vs h = h.0.each 0 (let l = h.1 in omega arith)

-- A number that was read, and as much below zero.
abbrev less : (k : ℤ) → Fits fine k → Formula
less k f = number (pos 0) 0 (le_refl 0) ⊖ number k fine f.within

zero_less : (k : ℤ) → pos 0 -ℤ k ≡ neg_ℤ k
zero_less = ints 1 (λ k. con (pos 0) :- k := neg k) tt

pub overflow_sub-result : goal.overflow_sub-result
unfolding vertex_at
overflow_sub-result c = formula_fits (less c.number_at.result (rw c.number_at.ensures (corner _ c.requires).at_x)) tt

pub overflow_sub-result-2 : goal.overflow_sub-result-2
unfolding vertex_at
overflow_sub-result-2 c = formula_fits (less c.number_at-2.result (rw c.number_at-2.ensures (corner _ c.requires).at_y)) tt

pub overflow_sub-result-3 : goal.overflow_sub-result-3
unfolding vertex_at
overflow_sub-result-3 c = formula_fits (less c.number_at-3.result (rw c.number_at-3.ensures (corner _ c.requires).at_z)) tt

pub returns : goal.returns
unfolding reverse vertex_at
returns c =
    let w = corner _ c.requires in
    let x = c.number_at in
    let y = c.number_at-2 in
    let z = c.number_at-3 in
    let turned = λ (k : ℤ) (f : Fits fine k). formula_same (less k f) tt ∙ zero_less k in
    λ i. record {
      x = (turned x.result (rw x.ensures w.at_x) ∙ ap neg_ℤ x.ensures) i;
      y = (turned y.result (rw y.ensures w.at_y) ∙ ap neg_ℤ y.ensures) i;
      z = (turned z.result (rw z.ensures w.at_z) ∙ ap neg_ℤ z.ensures) i;
    }

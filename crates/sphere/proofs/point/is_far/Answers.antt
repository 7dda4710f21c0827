-- `is_far` meets its contract: its two comparisons together are a test of the size.
use mathlib.Core.Path.{◌≡◌, sym, ap, ap₂, ◌∙◌}
use mathlib.Core.Bool.{◌||◌}
use lib.Dec.{lit<}
use lib.IntN.{ℤ, pos, ◌-ℤ◌}
use lib.Signed.{lt_z}
use mir.Syntax.{w64}
use mir.Val.{SFits, to_z, of_z}
use mir.ValLaws.{to_z-of_z}
use Rattle.integers.proofs.Compare.{size_test, result_same}
use Rattle.sphere.specs.declared.point.Grid.{Grid}
use Rattle.sphere.specs.declared.point.Grid.TheVariants.{Coarse, Fine}
use Rattle.sphere.specs.Point.{limit_of, is_far}
use Rattle.sphere.proofs.point.is_far.Goals as goal
use Rattle.sphere.proofs.point.is_far.Goals.{After-limit-most}

-- The least number of the grid.
least_fits : (g : Grid) → SFits w64 (pos 0 -ℤ pos (limit_of g))
least_fits Coarse = record { sfits = lit< tt }
least_fits Fine = record { sfits = lit< tt }

far_test : (g : Grid) (k : ℤ) → (lt_z k (pos 0 -ℤ pos (limit_of g)) || lt_z (pos (limit_of g)) k) ≡ is_far (limit_of g) k
unfolding is_far
far_test Coarse k = size_test 1048575 k
far_test Fine k = size_test 67108863 k

module _ (c : After-limit-most) where
  abbrev g : Grid
  g = c.before.args.grid

  most : to_z w64 (of_z w64 c.limit-most.result) ≡ pos (limit_of g)
  most = result_same w64 c.limit-most.result c.limit-most.type_inv c.limit-most.ensures

  abbrev least : ℤ
  least = to_z w64 0 -ℤ to_z w64 (of_z w64 c.limit-most.result)

  fits : SFits w64 least
  fits = rw most (least_fits g)

  same : to_z w64 (of_z w64 least) ≡ pos 0 -ℤ pos (limit_of g)
  same = to_z-of_z w64 least fits ∙ ap (λ m. pos 0 -ℤ m) most

  number : to_z w64 (of_z w64 c.before.args.k) ≡ c.before.args.k
  number = to_z-of_z w64 c.before.args.k c.before.ranges.k

pub returns-then-k-most : goal.returns-then-k-most
returns-then-k-most c =
    let b = c.before in
    let t = ap₂ lt_z (sym (number b)) (sym (same b)) ∙ c.if-k-most.true in
    ap (λ u. u || lt_z (pos (limit_of (g b))) b.before.args.k) (sym t) ∙ far_test (g b) b.before.args.k

pub returns : goal.returns
returns c =
    let b = c.before in
    let t = ap₂ lt_z (sym (number b)) (sym (same b)) ∙ c.if-k-most.false in
    ap₂ lt_z (most b) (number b)
    ∙ ap (λ u. u || lt_z (pos (limit_of (g b))) b.before.args.k) (sym t) ∙ far_test (g b) b.before.args.k

-- `is_far` meets its contract: its two comparisons together are a test of the size.
use Rattle.std.proofs.Common.{◌≡◌, ◌||◌, ℤ, pos, negsuc, sym, ap, ◌∙◌, w64}
use lib.Signed.{lt_z}
use mir.ValLaws.{to_z-of_z}
use Rattle.integers.proofs.Compare.{size_test}
use Rattle.sphere.specs.Point.{is_far}
use Rattle.separation.specs.Axes.{unit}
use Rattle.separation.proofs.axes.is_far.Goals as goal

far_test : (k : ℤ) → (lt_z k (negsuc 1073741823) || lt_z (pos unit) k) ≡ is_far unit k
unfolding is_far
far_test k = size_test 1073741823 k

pub returns-then-l-lt-LEAST : goal.returns-then-l-lt-LEAST
returns-then-l-lt-LEAST c =
    let l = c.args.l in
    let number = to_z-of_z w64 l c.ranges.l in
    c.if-l-lt-LEAST.true
    ∙ ap (λ t. t || lt_z (pos unit) l) (sym (ap (λ k. lt_z k (negsuc 1073741823)) (sym number) ∙ c.if-l-lt-LEAST.true)) ∙ far_test l

pub returns-else-l-lt-LEAST : goal.returns-else-l-lt-LEAST
returns-else-l-lt-LEAST c =
    let l = c.args.l in
    let number = to_z-of_z w64 l c.ranges.l in
    ap (λ k. lt_z (pos unit) k) number
    ∙ ap (λ t. t || lt_z (pos unit) l) (sym (ap (λ k. lt_z k (negsuc 1073741823)) (sym number) ∙ c.if-l-lt-LEAST.false))
    ∙ far_test l

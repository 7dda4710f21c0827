-- `forward` meets its contract.
use Rattle.std.proofs.Common.{sym, ◌∙◌}
use lib.Signed.{lt_z_yes}
use Rattle.separation.specs.Axes.{unit}
use Rattle.separation.proofs.Laws.Cleared.{fits_near}
use Rattle.separation.proofs.Laws.Lower.{below_size, forward_lower, zero_lower}
use Rattle.separation.proofs.axes.forward.Goals as goal

pub clears_all-requires : goal.clears_all-requires
clears_all-requires c = (c.requires.0, (c.requires.1.0, fits_near _ (sym c.is_far.ensures ∙ c.if-not-is_far.true)))

pub returns-then-clears_all : goal.returns-then-clears_all
returns-then-clears_all c =
    let r = fits_near _ (sym c.is_far.ensures ∙ c.if-not-is_far.true) in
    forward_lower c.args.vertices.now c.args.e c.args.d c.args.f c.requires.1.0 _ r (lt_z_yes (rw c.if-l-gt0.true tt))
    (below_size _ unit r.within) (c.clears_all.ensures c.if-clears_all.true)

pub returns-else-not-is_far : goal.returns-else-not-is_far
returns-else-not-is_far c = zero_lower c.requires.1.1

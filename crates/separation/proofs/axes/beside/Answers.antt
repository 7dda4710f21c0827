-- `beside` meets its contract.
use Rattle.std.proofs.Common.{sym, ◌∙◌}
use lib.Signed.{le_z_yes}
use Rattle.separation.proofs.Laws.Cleared.{fits_near}
use Rattle.separation.proofs.Laws.Lower.{beside_lower, least_lower}
use Rattle.separation.proofs.axes.beside.Goals as goal

pub clears_any-requires : goal.clears_any-requires
clears_any-requires c = (c.requires.0, (c.requires.1, fits_near _ (sym c.is_far.ensures ∙ c.if-not-is_far.true)))

pub returns-then-clears_any : goal.returns-then-clears_any
returns-then-clears_any c =
    beside_lower c.args.vertices.now c.args.e c.args.d c.args.f c.requires.1 _
    (fits_near _ (sym c.is_far.ensures ∙ c.if-not-is_far.true)) (le_z_yes (rw c.if-l-le0.true tt))
    (c.clears_any.ensures c.if-clears_any.true)

pub returns-else-not-is_far : goal.returns-else-not-is_far
returns-else-not-is_far c = least_lower c.args.vertices.now c.args.e c.args.d c.args.f c.requires.1

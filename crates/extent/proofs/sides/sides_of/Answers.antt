-- `sides_of` meets its contract.
use mathlib.Core.Path.{sym, subst}
use Rattle.extent.specs.Sides.{Encloses}
use Rattle.extent.proofs.Laws.Held.{enclosed}
use Rattle.extent.proofs.sides.sides_of.Goals as goal

pub returns : goal.returns
returns c =
    subst (λ high. Encloses c.args.vertices.now (record { low = c.bounds.result; high = high }))
    (sym c.turned.ensures) (enclosed _ _ c.bounds.ensures c.bounds-2.ensures)

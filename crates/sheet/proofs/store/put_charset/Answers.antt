-- `store::put_charset` meets its contract.
use mathlib.Core.Path.{refl}
use mathlib.Core.List.{[], ◌∷◌}
use native.Mathlib.Omega.{arith}
use Rattle.sheet.proofs.Laws.Stores.{field_stored}
use Rattle.sheet.proofs.store.put_charset.Goals as goal

pub returns : goal.returns
returns c =
    let s = c.args in
    rw c.put_head.ensures
    (field_stored s.b.now 7 10 2 1 (s.charset ∷ []) (omega arith) refl)

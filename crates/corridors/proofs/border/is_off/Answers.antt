-- `is_off` meets its contract.
use Rattle.std.proofs.Common.{ap, ◌∙◌, not}
use mir.Syntax.{w64}
use Rattle.integers.specs.Sign.{sign_of, is_zero}
use Rattle.integers.proofs.Compare.{zero_test}
use Rattle.corridors.proofs.border.is_off.Goals as goal

pub returns : goal.returns
returns c =
    let n = c.number_of in
    ap not (zero_test w64 n.result (record { sfits = n.type_inv })) ∙ ap (λ z. not (is_zero (sign_of z))) n.ensures

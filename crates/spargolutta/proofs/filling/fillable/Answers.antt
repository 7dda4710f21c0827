-- `filling::fillable` meets its contract: a sheet has at most 4,096 vertices.
use Rattle.std.proofs.Common.{rules, ◌≡◌}
use mathlib.Core.Path.{ap}
use native.Mathlib.Omega.{arith}
use Rattle.std.specs.declared.result.Result.TheVariants.{Ok}
use Rattle.fields.proofs.Laws.Parts.{passed_value}
use Rattle.sheet.specs.Sheet.{sheet_check}
use Rattle.sheet.specs.Open.{opened_after}
use Rattle.spargolutta.proofs.Read.{few_vertices}
use Rattle.spargolutta.proofs.filling.fillable.Goals as goal

pub overflow_mul-needed : goal.overflow_mul-needed
overflow_mul-needed c =
    let b = c.args.sheet.now in
    let opened : opened_after (sheet_check b) b ≡ Ok c.in_ok-zone.zone = search rules in
    let v = passed_value (sheet_check b) opened in
    record { fits = omega (arith, ap (λ o. o.count) v.1, few_vertices b v.0) }

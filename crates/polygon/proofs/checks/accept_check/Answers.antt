-- `accept_check` meets its contract: the checks that passed bring what line 16 rests on.
use Rattle.std.proofs.Common.{rules, ◌≡◌}
use Rattle.std.specs.declared.result.Result.TheVariants.{Ok}
use Rattle.sphere.specs.Point.{limit_of}
use Rattle.polygon.specs.Checks.{polygon_check, reference_check}
use Rattle.polygon.proofs.Laws.Checks.{polygon_passed, reference_passed}
use Rattle.polygon.proofs.checks.accept_check.Goals as goal

pub circle_check-requires : goal.circle_check-requires
circle_check-requires c =
    let a = c.args in
    let polygon : polygon_check (limit_of a.grid) a.vertices.now ≡ Ok tt = search rules in
    let reference : reference_check (limit_of a.grid) a.known ≡ Ok tt = search rules in
    ((polygon_passed polygon).1, reference_passed reference)

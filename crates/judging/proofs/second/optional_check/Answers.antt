-- `optional_check` meets its contract.
use Rattle.std.proofs.Common.{rules, ◌≡◌}
use Rattle.std.specs.declared.result.Result.TheVariants.{Ok}
use Rattle.sphere.specs.Point.{limit_of}
use Rattle.polygon.specs.Checks.{accept_check}
use Rattle.judging.proofs.Laws.Accept.{room_any, after_boxed}
use Rattle.judging.proofs.second.optional_check.Goals as goal

pub accept_boxed-requires : goal.accept_boxed-requires
accept_boxed-requires c = room_any c.args.vertices.now _ (search rules)

pub second_check-requires : goal.second_check-requires
second_check-requires c =
    let s = c.args in
    let vs = s.vertices.now in
    let ok : accept_check (limit_of s.grid) vs s.known ≡ Ok tt = search rules in
    (ok, rw (c.accept_boxed.ensures.1, ok) (after_boxed (limit_of s.grid) vs s.known _ ok (room_any vs _ (search rules))))

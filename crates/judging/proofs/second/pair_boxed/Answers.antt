-- `pair_boxed` meets its contract.
use Rattle.std.proofs.Common.{rules, ◌≡◌}
use Rattle.std.specs.declared.result.Result.TheVariants.{Ok}
use Rattle.sphere.specs.Point.{limit_of}
use Rattle.polygon.specs.Checks.{accept_check}
use Rattle.judging.proofs.Laws.Accept.{after_boxed}
use Rattle.judging.proofs.second.pair_boxed.Goals as goal

pub second_check-requires : goal.second_check-requires
second_check-requires c =
    let s = c.args in
    let ok : accept_check (limit_of s.grid) s.vertices.now s.known ≡ Ok tt = search rules in
    (ok, rw (c.accept_boxed.ensures.1, ok) (after_boxed (limit_of s.grid) s.vertices.now s.known _ ok c.requires))

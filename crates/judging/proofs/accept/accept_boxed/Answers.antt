-- `accept_boxed` meets its contract: what the checks establish is what the boxes need.
use Rattle.std.proofs.Common.{rules, ◌≡◌}
use Rattle.std.specs.declared.result.Result.TheVariants.{Ok}
use Rattle.sphere.specs.Point.{limit_of}
use Rattle.polygon.specs.Checks.{accept_check}
use Rattle.polygon.proofs.Laws.Checks.{accept_passed, gridded_fine}
use Rattle.judging.proofs.accept.accept_boxed.Goals as goal

pub fill-requires : goal.fill-requires
fill-requires c =
    let s = c.args in
    let e : accept_check (limit_of s.grid) s.vertices.now s.known ≡ Ok tt = search rules in
    let a = accept_passed e in
    (a.listed, gridded_fine s.grid a.gridded, c.requires.enough a.listed.most)

-- `build` meets its contract: the buckets are a hint.
use Rattle.sphere.specs.Point.{limit_of}
use Rattle.sphere.proofs.Laws.Plane.{grid→fine}
use Rattle.polygon.specs.Accepted.{Accepted}
use Rattle.polygon.proofs.Laws.Checks.{accept_passed, accepted_some}
use Rattle.cones.proofs.build.build.Goals as goal

pub frame_of-frame-requires : goal.frame_of-frame-requires
frame_of-frame-requires c =
    let v = c.args in
    let q = c.requires.known_value.0 in
    let a : Accepted (limit_of v.grid) v.vertices.now v.known = accept_passed q in
    (grid→fine v.grid a.known, accepted_some (limit_of v.grid) v.vertices.now v.known q)

pub grow_roots-size-requires : goal.grow_roots-size-requires
grow_roots-size-requires c =
    let v = c.args in
    let a : Accepted (limit_of v.grid) v.vertices.now v.known = accept_passed c.requires.known_value.0 in
    (a.listed.most, c.put_sectors.ensures.room, c.requires.known_value.2)

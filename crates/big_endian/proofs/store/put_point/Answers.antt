-- `store::put_point` meets its contract.
use mathlib.Core.Path.{◌≡◌, ◌∙◌}
use lib.IntN.{ℤ}
use mir.Syntax.{w64}
use mir.Val.{to_z, of_z}
use mir.ValLaws.{to_z-of_z}
use Rattle.sphere.specs.Point.{Fits}
use Rattle.big_endian.proofs.Laws.Signed.{narrows, widens}
use Rattle.big_endian.proofs.Laws.Stores.{point_stored_lem}
use Rattle.big_endian.proofs.store.put_point.Goals as goal

whole : (z : ℤ) → Fits 2147483647 z → to_z w64 (of_z w64 z) ≡ z
whole z f = to_z-of_z w64 z (widens (narrows z f))

pub returns : goal.returns
returns c =
    let c3 = c.before.before.before in
    let c2 = c3.before.before.before.before.before in
    let c1 = c2.before.before.before.before.before in
    let s = c1.before.before.before.before in
    let p = s.args.p in
    let w = s.requires.1 in
    let x = rw (whole p.x w.at_x) at c1.put_coordinate.ensures in
    let y = rw (whole p.y w.at_y, x) at c2.put_coordinate-2.ensures in
    let z = rw (whole p.z w.at_z, y) at c3.put_coordinate-3.ensures in
    z ∙ point_stored_lem s.args.b.now s.args.at p.x p.y p.z

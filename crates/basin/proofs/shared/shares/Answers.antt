-- `shares` meets its contract.
use mathlib.Core.Path.{◌≡◌, sym, ◌∙◌, ap}
use Prim.Native.Nat.{◌^◌, ◌<◌}
use lib.IntN.{ℤ}
use lib.Signed.{mag}
use mir.Syntax.{w64}
use mir.Val.{hbits, to_z, of_z}
use mir.ValLaws.{to_z-of_z}
use Rattle.integers.specs.Sign.{sign_of}
use Rattle.integers.proofs.Compare.{result_sign}
use Rattle.sphere.specs.declared.plane.Plane.{Plane}
use Rattle.sphere.specs.declared.point.Grid.{Grid}
use Rattle.sphere.specs.declared.point.Point.{Point}
use Rattle.sphere.specs.Orientation.{dot_of, orientation_of}
use Rattle.sphere.proofs.Laws.Plane.{Made, grid→fine, plane_made, made_within, made_turn}
use Rattle.basin.specs.Shared.{meets_by, is_shared}
use Rattle.basin.proofs.shared.shares.Goals as goal

-- The plane of the second edge, and the side of an end of the first one, as the local holds it.
side_at : {grid : Grid} {A B : Point} {plane : Plane} (p : Point) (z : ℤ) → Made grid A B plane → mag z < 2 ^ hbits w64 →
    sign_of z ≡ sign_of (dot_of plane.normal p) → sign_of (to_z w64 (of_z w64 z)) ≡ sign_of (orientation_of A B p)
side_at p z m small e = result_sign w64 z small (e ∙ ap sign_of (made_turn m p))

pub holds_end-requires-clause-within : goal.holds_end-requires-clause-within
holds_end-requires-clause-within c =
    let g = c.args.grid in
    let p = c.requires.within in (grid→fine g p.0, grid→fine g p.1, grid→fine g p.2, grid→fine g p.3)

pub side_of-s3-requires : goal.side_of-s3-requires
side_of-s3-requires c =
    let p = c.requires.within in
    let m = plane_made c.args.grid c.args.second.start c.args.second.end p.2 p.3 c.plane_through-plane.ensures in
    (m.sound, made_within m p.0)

pub side_of-s4-requires : goal.side_of-s4-requires
side_of-s4-requires c =
    let p = c.requires.within in
    let m = plane_made c.args.grid c.args.second.start c.args.second.end p.2 p.3 c.plane_through-plane.ensures in
    (m.sound, made_within m p.1)

pub holds_end-requires-2-clause-within : goal.holds_end-requires-2-clause-within
holds_end-requires-2-clause-within c =
    let g = c.args.grid in
    let p = c.requires.within in (grid→fine g p.2, grid→fine g p.3, grid→fine g p.0, grid→fine g p.1)

pub holds_end-requires-2-clause-s1_value : goal.holds_end-requires-2-clause-s1_value
holds_end-requires-2-clause-s1_value c =
    let p = c.requires.within in
    let m = plane_made c.args.grid c.args.second.start c.args.second.end p.2 p.3 c.plane_through-plane.ensures in (
      side_at c.args.first.start c.side_of-s3.result m c.side_of-s3.type_inv c.side_of-s3.ensures,
      side_at c.args.first.end c.side_of-s4.result m c.side_of-s4.type_inv c.side_of-s4.ensures,
    )

pub returns-else-holds_end-2 : goal.returns-else-holds_end-2
unfolding is_shared
returns-else-holds_end-2 c =
    let p = c.requires.within in
    let m = plane_made c.args.grid c.args.second.start c.args.second.end p.2 p.3 c.plane_through-plane.ensures in
    let s1 = ap sign_of (to_z-of_z w64 c.args.s1 c.ranges.s1) ∙ c.requires.s1_value.0 in
    let s2 = ap sign_of (to_z-of_z w64 c.args.s2 c.ranges.s2) ∙ c.requires.s1_value.1 in
    let s3 = side_at c.args.first.start c.side_of-s3.result m c.side_of-s3.type_inv c.side_of-s3.ensures in
    let s4 = side_at c.args.first.end c.side_of-s4.result m c.side_of-s4.type_inv c.side_of-s4.ensures in
    rw (sym c.holds_end.ensures ∙ c.if-holds_end.false, sym c.holds_end-2.ensures ∙ c.if-holds_end-2.false)
    (c.meets_by.ensures ∙ λ i. meets_by (s1 i) (s2 i) (s3 i) (s4 i))

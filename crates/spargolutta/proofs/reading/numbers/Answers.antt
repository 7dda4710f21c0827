-- `reading::numbers` meets its contract.
use mathlib.Core.Path.{◌≡◌, ◌∙◌}
use lib.IntN.{ℤ}
use mir.Syntax.{w32, w64}
use mir.Val.{to_z, of_z}
use mir.ValLaws.{to_z-of_z}
use Rattle.integers.proofs.Compare.{result_same}
use Rattle.sphere.specs.Point.{Fits}
use Rattle.angles.proofs.Numbers.{numbers_same}
use Rattle.big_endian.proofs.Laws.Signed.{narrows, widens}
use Rattle.spargolutta.proofs.reading.numbers.Goals as goal

whole : (z : ℤ) → Fits 2147483647 z → to_z w64 (of_z w64 z) ≡ z
whole z f = to_z-of_z w64 z (widens (narrows z f))

pub returns : goal.returns
returns c =
    let w = c.requires in
    let x = c.narrow in
    let y = c.narrow-2 in
    let z = c.narrow-3 in
    numbers_same _ (result_same w32 x.result x.type_inv x.ensures ∙ whole c.args.p.x w.at_x)
    (result_same w32 y.result y.type_inv y.ensures ∙ whole c.args.p.y w.at_y)
    (result_same w32 z.result z.type_inv z.ensures ∙ whole c.args.p.z w.at_z)

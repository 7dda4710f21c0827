-- `put_corner` meets its contract.
use mathlib.Core.Path.{◌∙◌}
use native.Mathlib.Omega.{arith}
use native.Mathlib.Numerals.{towards_suc}
use Rattle.search.proofs.Laws.Narrow.{whole}
use Rattle.search.proofs.boxes.put_corner.Goals as goal

pub put_number-requires : goal.put_number-requires
put_number-requires c =
    let p = c.args.p in
    let w = c.requires.1 in (omega arith, rw (whole p.x w.at_x) w.at_x)

pub put_number-requires-2 : goal.put_number-requires-2
put_number-requires-2 c =
    let p = c.args.p in
    let w = c.requires.1 in (omega arith, rw (whole p.y w.at_y) w.at_y)

pub put_number-requires-3 : goal.put_number-requires-3
put_number-requires-3 c =
    let p = c.args.p in
    let w = c.requires.1 in (omega arith, rw (whole p.z w.at_z) w.at_z)

pub returns : goal.returns
returns c =
    let p = c.args.p in
    let w = c.requires.1 in
    let x = rw (whole p.x w.at_x) at c.put_number.ensures in
    let y = rw (whole p.y w.at_y, x) at c.put_number-2.ensures in
    let z = rw (whole p.z w.at_z, y) at c.put_number-3.ensures in
    z ∙ simp towards_suc

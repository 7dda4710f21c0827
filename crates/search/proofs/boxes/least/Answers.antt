-- `least` meets its contract, coordinate by coordinate.
use mir.Syntax.{w64}
use Rattle.integers.proofs.Compare.{result_same}
use Rattle.sphere.proofs.Numbers.{words_of}
use Rattle.search.specs.Boxes.{lesser_of}
use Rattle.search.proofs.Laws.Extremes.{words_by}
use Rattle.search.proofs.boxes.least.Goals as goal

pub returns : goal.returns
returns c =
    let s = c.args in
    let p = words_of s.p c.struct_told-5-1.given in
    let q = words_of s.q c.struct_told-6-1.given in
    let x = c.lesser in
    let y = c.lesser-2 in
    let z = c.lesser-3 in
    words_by lesser_of p q (result_same w64 x.result x.type_inv x.ensures)
    (result_same w64 y.result y.type_inv y.ensures) (result_same w64 z.result z.type_inv z.ensures)

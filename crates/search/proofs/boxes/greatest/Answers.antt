-- `greatest` meets its contract, coordinate by coordinate.
use mir.Syntax.{w64}
use Rattle.integers.proofs.Compare.{result_same}
use Rattle.sphere.proofs.Numbers.{words_of}
use Rattle.std.specs.Int.{int_max}
use Rattle.search.proofs.Laws.Extremes.{words_by}
use Rattle.search.proofs.boxes.greatest.Goals as goal

pub returns : goal.returns
returns c =
    let s = c.args in
    let p = words_of s.p c.struct_told-5-1.given in
    let q = words_of s.q c.struct_told-6-1.given in
    let x = c.max in
    let y = c.max-2 in
    let z = c.max-3 in
    words_by int_max p q (result_same w64 x.result x.type_inv x.ensures.value)
    (result_same w64 y.result y.type_inv y.ensures.value) (result_same w64 z.result z.type_inv z.ensures.value)

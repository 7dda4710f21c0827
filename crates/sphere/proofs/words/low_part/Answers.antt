-- `low_part` meets its contract: a remainder toward zero fits.
use lib.Dec.{lit<}
use Rattle.sphere.specs.Words.{low_part}
use Rattle.sphere.proofs.Numbers.{words_of}
use Rattle.sphere.proofs.Laws.Words.{half_fits, low_kept}
use Rattle.sphere.proofs.words.low_part.Goals as goal

pub returns : goal.returns
unfolding low_part
returns c =
    let n = c.before.before.before.before.before.before.args.n in
    let w = words_of n c.struct_told-3-1.given in
    let x = low_kept n.x w.at_x in
    let y = low_kept n.y w.at_y in
    let z = low_kept n.z w.at_z in
    λ i. record { x = x i; y = y i; z = z i }

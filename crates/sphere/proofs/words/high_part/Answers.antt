-- `high_part` meets its contract: a quotient toward zero fits.
use lib.Dec.{lit<}
use Rattle.sphere.specs.Words.{high_part}
use Rattle.sphere.proofs.Numbers.{words_of}
use Rattle.sphere.proofs.Laws.Words.{half_fits, high_kept}
use Rattle.sphere.proofs.words.high_part.Goals as goal

pub returns : goal.returns
unfolding high_part
returns c =
    let n = c.before.before.before.before.before.before.args.n in
    let w = words_of n c.struct_told-3-1.given in
    let x = high_kept n.x w.at_x in
    let y = high_kept n.y w.at_y in
    let z = high_kept n.z w.at_z in
    λ i. record { x = x i; y = y i; z = z i }

-- `put_numbers` meets its contract.
use mathlib.Core.Path.{ap, ◌∙◌}
use mir.Syntax.{w32}
use mir.ValLaws.{to_z-of_z}
use Rattle.big_endian.specs.Bytes.{word_of, int_bytes}
use Rattle.angles.proofs.Numbers.{numbers_of_lem}
use Rattle.degrees.proofs.Laws.{numbers_stored}
use Rattle.degrees.proofs.put_numbers.Goals as goal

pub returns : goal.returns
unfolding int_bytes
returns c =
    let c3 = c.before.before.before in
    let c2 = c3.before.before.before.before.before.before in
    let c1 = c2.before.before.before.before.before.before in
    let s = c1.before.before.before.before.before.args in
    let v = s.v in
    let w = numbers_of_lem v c1.before.before.struct_told-1.given in
    let x = rw (c1.before.to_word.ensures ∙ ap word_of (to_z-of_z w32 v.x w.at_x)) at c1.put_word.ensures in
    let y = rw (c2.before.to_word-2.ensures ∙ ap word_of (to_z-of_z w32 v.y w.at_y), x)
    at c2.put_word-2.ensures in
    let z = rw (c3.before.to_word-3.ensures ∙ ap word_of (to_z-of_z w32 v.z w.at_z), y)
    at c3.put_word-3.ensures in
    z ∙ numbers_stored s.points.now s.at v

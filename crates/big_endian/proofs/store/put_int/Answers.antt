-- `store::put_int` meets its contract.
use mathlib.Core.Path.{ap, ◌∙◌}
use mir.Syntax.{w32}
use mir.ValLaws.{to_z-of_z}
use Rattle.big_endian.specs.Bytes.{word_of, int_bytes}
use Rattle.big_endian.proofs.store.put_int.Goals as goal

pub returns : goal.returns
unfolding int_bytes
returns c =
    let s = c.before.before.before.before.before.before.before in
    let w = c.before.before.before.before.to_word.ensures ∙ ap word_of (to_z-of_z w32 s.args.x s.ranges.x) in
    rw (← w) c.before.before.before.put_word.ensures

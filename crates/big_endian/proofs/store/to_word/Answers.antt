-- `store::to_word` meets its contract.
use mathlib.Core.Path.{ap, ◌∙◌}
use mir.Syntax.{w32}
use mir.Val.{of_z}
use mir.ValLaws.{to_z-of_z}
use Rattle.big_endian.proofs.Laws.Signed.{word_signed}
use Rattle.big_endian.proofs.store.to_word.Goals as goal

pub returns : goal.returns
returns c =
    c.cast_unsigned.ensures ∙ ap (of_z w32) (to_z-of_z w32 c.args.x c.ranges.x) ∙ word_signed c.args.x

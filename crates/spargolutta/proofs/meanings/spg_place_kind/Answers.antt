-- `meanings::spg_place_kind` meets its contract.
use Rattle.spargolutta.specs.Meanings.{rows, row_of, kind_table}
use Rattle.spargolutta.proofs.Texts.{kind_at}
use Rattle.spargolutta.proofs.meanings.spg_place_kind.Goals as goal

pub returns : goal.returns
unfolding rows row_of kind_table
returns c =
    let i = c.index in
    kind_at c.args.number i.result i.ensures.0 i.ensures.1

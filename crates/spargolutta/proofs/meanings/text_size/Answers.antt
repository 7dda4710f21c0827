-- `meanings::text_size` meets its contract.
use Rattle.spargolutta.specs.Meanings.{rows, row_of, size_table}
use Rattle.spargolutta.proofs.Texts.{size_at}
use Rattle.spargolutta.proofs.meanings.text_size.Goals as goal

pub returns : goal.returns
unfolding rows row_of size_table
returns c =
    let i = c.index in
    size_at c.args.number i.result i.ensures.0 i.ensures.1

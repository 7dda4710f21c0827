-- `meanings::text_start` meets its contract.
use Rattle.spargolutta.specs.Meanings.{rows, start_table}
use Rattle.spargolutta.proofs.Texts.{start_at}
use Rattle.spargolutta.proofs.meanings.text_start.Goals as goal

pub returns : goal.returns
unfolding rows start_table
returns c =
    let i = c.index in
    start_at c.args.number i.result i.ensures.0 i.ensures.1

-- `lines::put_result` meets its contract.
use mathlib.Core.Path.{ap, ◌∙◌}
use mathlib.Core.List.{List}
use Prim.Native.Nat.{ℕ, ◌+◌}
use lib.ListN.{length}
use lib.Seq.{sets}
use Rattle.zone_judge.specs.Line.{result_line}
use Rattle.zone_judge.proofs.Laws.{line_same}
use Rattle.zone_judge.proofs.lines.put_result.Goals as goal

pub returns-clause-put : goal.returns-clause-put
unfolding result_line
returns-clause-put c =
    let e = line_same c.word_at-number.ensures c.word_at-place.ensures c.word_at.ensures in
    c.put_line.ensures.put ∙ ap (λ (d : List ℕ). sets c.args.out.now c.args.at d) e

pub returns-clause-end : goal.returns-clause-end
unfolding result_line
returns-clause-end c =
    let e = line_same c.word_at-number.ensures c.word_at-place.ensures c.word_at.ensures in
    c.put_line.ensures.end ∙ ap (λ (d : List ℕ). c.args.at + length d) e

-- `step::next_at` meets its contract: a sheet ends in the book.
use mathlib.Core.Path.{◌≡◌, ap, ◌∙◌}
use mathlib.Core.Logic.{⊎_elim}
use Prim.Native.Nat.{◌+◌}
use native.Mathlib.Omega.{arith}
use Rattle.book.specs.Step.{step_count_of, next_at}
use Rattle.book.proofs.Laws.Steps.{next_within}
use Rattle.book.proofs.step.next_at.Goals as goal
use Rattle.book.proofs.step.next_at.Lts as lts
use Rattle.book.proofs.step.next_at.Reads as reads
use Rattle.book.proofs.step.next_at.Tie as tie

abbrev After-count : Type 0
After-count = lts.After-count tie.the-claims reads.Pre reads.Post

same : (c : After-count) →
    let s = c.args in s.at + c.count.result ≡ next_at s.book.now s.at
unfolding next_at
same c =
    let s = c.args in
    ap (λ n. s.at + n) (c.count.ensures ∙ ap step_count_of c.step_at.ensures)

pub overflow_add-result : goal.overflow_add-result
overflow_add-result c =
    let s = c.args in
    let e = same c.before in
    ⊎_elim (λ h. omega arith) (λ h. omega arith) (next_within s.book.now s.at)

pub returns : goal.returns
returns c = same c.before

-- `ring::first_meeting` meets its contract.
use mathlib.Core.Path.{◌≡◌, sym, ap, ◌∙◌}
use mathlib.Core.Bool.{Bool, true, false}
use Prim.Native.Nat.{ℕ}
use Rattle.std.proofs.Common.{rules}
use borrow.Author.Tests.{tests}
use Rattle.std.proofs.lemmas.Iterator.{first_from_Range}
use Rattle.answer.specs.Search.{first_from}
use Rattle.compare.specs.Ring.{is_meeting, first_meeting, ring_of}
use Rattle.compare.proofs.Laws.Ring.{ring_count}
use Rattle.compare.proofs.Laws.Found.{found_first}
use Rattle.compare.proofs.ring.first_meeting.Goals as goal

pub returns : goal.returns
unfolding first_meeting
returns c =
    let a = c.args in
    let test : ℕ → Bool = is_meeting (ring_of a.left.now) (ring_of a.right.now) a.back in
    let m = first_from_Range _ _ _ c.find.result (λ i. test i ≡ true) (λ i. test i ≡ false) c.find.ensures.ran
    (λ x q k. search (rules, tests)) (λ x q k. search (rules, tests)) in
    found_first test _ _ m ∙ ap (λ n. first_from test 0 n) (sym (ring_count a.left.now))

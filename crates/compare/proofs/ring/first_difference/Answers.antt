-- `ring::first_difference` meets its contract.
use mathlib.Core.Path.{◌≡◌, sym, ap, ap₂, ◌∙◌}
use mathlib.Core.Bool.{Bool, true, false}
use Prim.Native.Nat.{ℕ, min}
use Rattle.std.proofs.Common.{rules}
use borrow.Author.Tests.{tests}
use Rattle.std.proofs.lemmas.Iterator.{first_from_Range}
use Rattle.answer.specs.Search.{first_from}
use Rattle.polygon.specs.Vertices.{vertices_count}
use Rattle.compare.specs.Ring.{differs_at, or_else, difference_of, ring_of}
use Rattle.compare.proofs.Laws.Ring.{ring_count}
use Rattle.compare.proofs.Laws.Found.{found_first, found_or}
use Rattle.compare.proofs.ring.first_difference.Goals as goal

pub returns : goal.returns
unfolding difference_of
returns c =
    let a = c.args in
    let test : ℕ → Bool = differs_at (ring_of a.left.now) (ring_of a.right.now) (λ i. i) in
    let m = first_from_Range _ _ _ c.find.result (λ i. test i ≡ true) (λ i. test i ≡ false) c.find.ensures.ran
    (λ x q k. search (rules, tests)) (λ x q k. search (rules, tests)) in
    let n : c.min-n.result ≡ min (vertices_count (ring_of a.left.now)) (vertices_count (ring_of a.right.now)) =
    c.min-n.ensures ∙ sym (ap₂ min (ring_count a.left.now) (ring_count a.right.now)) in
    c.unwrap_or.ensures ∙ found_or _ _ _ (found_first test _ _ m) ∙ ap (λ n. or_else (first_from test 0 n) n) n

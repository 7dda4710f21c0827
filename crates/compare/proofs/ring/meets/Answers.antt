-- `ring::meets` meets its contract.
use mathlib.Core.Path.{◌≡◌, refl, sym, ap, ◌∙◌}
use mathlib.Core.Bool.{Bool, true, false}
use Prim.Native.Nat.{ℕ}
use native.Mathlib.Omega.{arith}
use Rattle.std.proofs.Common.{rules}
use borrow.Author.Tests.{tests}
use Rattle.std.proofs.lemmas.Iterator.{cases_from_all, YieldsList-from_range}
use Rattle.answer.specs.Search.{first_from}
use Rattle.polygon.specs.Vertices.{vertices_count}
use Rattle.compare.specs.Ring.{ring_of, met_at, differs_at, is_nowhere, is_meeting, ring_size}
use Rattle.compare.proofs.Laws.Ring.{ring_count}
use Rattle.compare.proofs.Laws.Found.{all_nowhere}
use Rattle.compare.proofs.ring.meets.Goals as goal

pub returns : goal.returns
unfolding is_meeting
returns c =
    let a = c.args in
    let test : ℕ → Bool = differs_at (ring_of a.left.now) (ring_of a.right.now) (met_at a.back (vertices_count (ring_of a.left.now)) a.k) in
    let m = cases_from_all _ _ c.all.result (λ i. test i ≡ false) (λ i. test i ≡ true) c.all.ensures.ran
    (YieldsList-from_range 0 _ (ring_size a.left.now) refl (omega arith)) (λ x q k. (search rules, search (rules, tests))) (λ x q k. search (rules, tests)) in
    all_nowhere test _ _ m ∙ ap (λ n. is_nowhere (first_from test 0 n)) (sym (ring_count a.left.now))

-- `clear` meets its contract.
use mathlib.Core.Path.{◌≡◌, refl, ap, ◌∙◌}
use Prim.Native.Nat.{ℕ}
use native.Mathlib.Omega.{arith}
use lib.Seq.{sets}
use Rattle.feed.specs.Feed.{query_count, resultsBytes}
use Rattle.book_feed.proofs.Laws.Records.{record_bytes-length}
use Rattle.book_feed.proofs.Laws.Adding.{records_more}
use Rattle.book_feed.proofs.whole.clear.Invariants.{empty}
use Rattle.book_feed.proofs.whole.clear.Goals as goal

pub loop-k-init : goal.loop-k-init
unfolding resultsBytes
loop-k-init c = (omega arith, refl, refl)

pub put_sets-requires : goal.put_sets-requires
put_sets-requires c =
    let h = c.loop-k-test.true in
    omega (arith, h, c.requires, c.loop-k.invariant.2)

pub loop-k-preserved : goal.loop-k-preserved
loop-k-preserved c =
    let h = c.loop-k-test.true in (
      omega arith,
      rw c.loop-k.invariant.1 at c.put_sets.ensures
          ∙ records_more empty (λ i. record_bytes-length _) c.args.results.now c.loop-k.k,
      c.put_sets.auto.b ∙ c.loop-k.invariant.2,
    )

pub shape_of-results : goal.shape_of-results
shape_of-results c = c.loop-k.invariant.2

pub returns : goal.returns
returns c =
    let h = c.loop-k-test.false in
    let s = c.args in
    let e : c.loop-k.k ≡ query_count s.queries.now = omega (arith, h, c.loop-k.invariant.0) in
    c.loop-k.invariant.1 ∙ ap (λ (k : ℕ). sets s.results.now 0 (resultsBytes empty k)) e

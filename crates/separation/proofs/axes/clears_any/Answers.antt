-- `clears_any` meets its contract.
use Rattle.std.proofs.Common.{neg_ℤ, sym, ap, ◌∙◌, inl, inr, w64}
use mir.ValLaws.{to_z-of_z}
use Rattle.integers.proofs.Compare.{result_same}
use Rattle.separation.proofs.Laws.Cleared.{cleared}
use Rattle.separation.proofs.axes.clears_any.Goals as goal
use Rattle.separation.proofs.axes.clears_any.Goals.{then-clears, else-clears, then-clears-2, else-clears-2}

pub returns-then-clears-3 : goal.returns-then-clears-3
returns-then-clears-3 c = λ e.
    let l = c.args.l in
    let n = to_z-of_z w64 l c.ranges.l in
    let vs = c.args.vertices.now in
    let E = c.args.e in
    elim c.if-clears-2.branch [
      | then-clears-2 v ↦ elim c.if-clears.branch [
        | then-clears w ↦ inl (inl (cleared vs E c.args.d l _ c.clears.ensures n w.if-clears.true))
        | else-clears w ↦ inl (inr (cleared vs E c.args.d (neg_ℤ l) _ w.clears-else-clears.ensures
            (result_same w64 w.opposite.result w.opposite.type_inv (w.opposite.ensures.0 ∙ ap neg_ℤ n))
            (sym w.value-is ∙ v.if-clears-2.true)))
      ]
      | else-clears-2 v ↦
          inr (inl (cleared vs E c.args.f l _ v.clears-else-clears-2.ensures n (sym v.value-is ∙ c.if-clears-3.true)))
    ]

pub returns-else-clears-3 : goal.returns-else-clears-3
returns-else-clears-3 c = λ e.
    let l = c.args.l in
    let last = c.opposite-else-clears-3 in
    inr (inr (cleared c.args.vertices.now c.args.e c.args.f (neg_ℤ l) _ c.clears-else-clears-3.ensures
    (result_same w64 last.result last.type_inv (last.ensures.0 ∙ ap neg_ℤ (to_z-of_z w64 l c.ranges.l))) e))

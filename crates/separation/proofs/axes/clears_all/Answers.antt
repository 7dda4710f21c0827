-- `clears_all` meets its contract.
use Rattle.std.proofs.Common.{neg_ℤ, sym, ap, ◌∙◌, w64}
use mathlib.Core.Bool.{false≢true}
use mir.ValLaws.{to_z-of_z}
use Rattle.integers.proofs.Compare.{result_same}
use Rattle.separation.proofs.Laws.Cleared.{cleared}
use Rattle.separation.proofs.axes.clears_all.Goals as goal
use Rattle.separation.proofs.axes.clears_all.Goals.{then-clears, else-clears, then-clears-2, else-clears-2}

pub returns-then-clears-3 : goal.returns-then-clears-3
returns-then-clears-3 c = λ e.
    let l = c.args.l in
    let n = to_z-of_z w64 l c.ranges.l in
    let vs = c.args.vertices.now in
    let E = c.args.e in
    let D = c.args.d in
    let F = c.args.f in
    let last = c.opposite-then-clears-3 in
    elim c.if-clears-2.branch [
      | then-clears-2 v ↦ elim c.if-clears.branch [
        | then-clears w ↦ record {
          at_d = cleared vs E D l _ c.clears.ensures n w.if-clears.true;
          back_d = cleared vs E D (neg_ℤ l) _ w.clears-then-clears.ensures
              (result_same w64 w.opposite.result w.opposite.type_inv (w.opposite.ensures.0 ∙ ap neg_ℤ n))
              (sym w.value-is ∙ v.if-clears-2.true);
          at_f = cleared vs E F l _ v.clears-then-clears-2.ensures n (sym v.value-is ∙ c.if-clears-3.true);
          back_f = cleared vs E F (neg_ℤ l) _ c.clears-then-clears-3.ensures
              (result_same w64 last.result last.type_inv (last.ensures.0 ∙ ap neg_ℤ n)) e;
        }
        | else-clears w ↦ absurd (false≢true (sym w.if-clears.false ∙ sym w.value-is ∙ v.if-clears-2.true))
      ]
      | else-clears-2 v ↦ absurd (false≢true (sym v.if-clears-2.false ∙ sym v.value-is ∙ c.if-clears-3.true))
    ]

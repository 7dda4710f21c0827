-- `queries::put_lines` meets its contract: a line for each result passed.
use mathlib.Core.Path.{◌≡◌, refl, ap, ◌∙◌}
use mathlib.Core.List.{List}
use Prim.Native.Nat.{ℕ, ◌+◌, ◌*◌}
use native.Mathlib.Omega.{arith}
use lib.ListN.{length}
use lib.Seq.{sets}
use Rattle.zone_judge.specs.Line.{result_line, lines_of}
use Rattle.zone_judge.proofs.Laws.{lines_put, lines_length}
use Rattle.zone_judge.proofs.queries.put_lines.Goals as goal

pub loop-i-init : goal.loop-i-init
unfolding lines_of
loop-i-init c = (refl, (omega arith, (omega arith, (refl, refl))))

pub loop-i-preserved : goal.loop-i-preserved
loop-i-preserved c =
    let l = c.loop-i in
    let p = c.put_result-at in
    let r = c.args.results.now in
    let put = p.ensures.put
    ∙ ap (λ (o : List ℕ). sets o l.at (result_line r (l.i * 12))) l.invariant.1.1.1.0
    ∙ lines_put c.args.out.now r l.i l.at l.invariant.1.1.1.1 in
    let end : p.result ≡ length (lines_of r (l.i + 1)) =
    omega (arith, p.ensures.end, l.invariant.1.1.1.1, lines_length r l.i) in
    (p.auto.out ∙ l.invariant.0, (omega arith, (omega (arith, p.ensures.most, l.invariant.1.1.0), (put, end))))

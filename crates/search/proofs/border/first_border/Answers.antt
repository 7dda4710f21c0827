-- `first_border` meets its contract: before edge i none that holds the query is border.
use Rattle.std.proofs.Common.{◌≡◌, ◌&&◌, ℕ, sym, ◌∙◌, ap, subst, arith}
use lib.ListN.{length-replicate, get_or-replicate}
use Rattle.polygon.specs.Vertices.{vertices_count}
use Rattle.polygon.specs.Border.{is_border}
use Rattle.polygon.specs.Verdict.{is_on_border, boundary_of}
use Rattle.search.specs.Walk.{NoneBefore}
use Rattle.search.proofs.Laws.Arc.{reference}
use Rattle.search.proofs.Laws.Settled.{settled_start, settled_past, settled_none, first_at}
use Rattle.search.proofs.border.first_border.Goals as goal

pub loop-i-init : goal.loop-i-init
loop-i-init c =
    let most = (reference c.requires.aimed).accepted.listed.most in
    let none : ℕ = 0 in
    let all = length-replicate 4096 none in (
      omega arith,
      all,
      settled_start (omega (arith, most, all)) (λ j h. get_or-replicate 4096 j 0 0 (omega (arith, h, most))),
    )

pub returns-in_err-edge : goal.returns-in_err-edge
unfolding boundary_of
returns-in_err-edge c =
    let n = vertices_count c.args.vertices.now in
    let none = rw c.in_err-edge.was at c.next_held.ensures in
    c.from_residual.ensures ∙ sym (settled_none (settled_past c.loop-i.invariant.2 n none) (omega arith))

pub returns-then-is_new_border : goal.returns-then-is_new_border
unfolding boundary_of
returns-then-is_new_border c =
    let vs = c.args.vertices.now in
    let edge = c.in_ok-edge.edge in
    let e = rw c.in_ok-edge.was at c.next_held.ensures in
    let before = settled_none (settled_past c.loop-i.invariant.2 edge e.passed) (omega (arith, e.before)) in
    sym (first_at (is_on_border vs c.args.arc.to) edge (vertices_count vs) before e.before
    (ap (λ t. t && is_border vs edge) e.held ∙ sym c.is_new_border.ensures.0 ∙ c.if-is_new_border.true))

pub returns : goal.returns
unfolding boundary_of
returns c =
    let last : c.loop-i.i ≡ vertices_count c.args.vertices.now =
    omega (arith, c.loop-i-test.false, c.loop-i.invariant.0) in
    sym (subst (λ k. NoneBefore c.args.vertices.now c.args.arc.to k) last
    (settled_none c.loop-i.invariant.2 c.loop-i.invariant.0))

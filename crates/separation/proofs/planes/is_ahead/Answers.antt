-- `is_ahead` meets its contract: no vertex before i is one that does not lie ahead.
use Rattle.std.proofs.Common.{◌≡◌, Bool, not, List, ℕ, ℤ, sym, ap, ◌∙◌, arith}
use Rattle.integers.specs.Sign.{sign_of, is_positive}
use Rattle.sphere.specs.declared.point.Point.{Point}
use Rattle.sphere.specs.Orientation.{dot_of}
use Rattle.answer.proofs.Laws.Search.{searched_step, searched_hit, searched_end}
use Rattle.polygon.specs.Vertices.{vertex_at}
use Rattle.separation.specs.Separation.{is_not_ahead, is_none, is_ahead}
use Rattle.separation.proofs.planes.is_ahead.Goals as goal

-- What was asked of vertex i.
outcome : (vs : List ℤ) (N : Point) (i : ℕ) {p : Point} {ahead t : Bool} → p ≡ vertex_at vs i →
    ahead ≡ is_positive (sign_of (dot_of N p)) → ahead ≡ t → is_not_ahead vs N i ≡ not t
outcome vs N i e f h =
    ap (λ p. not (is_positive (sign_of (dot_of N p)))) (sym e) ∙ ap not (sym f) ∙ ap not h

pub returns-then-not-stands_ahead : goal.returns-then-not-stands_ahead
unfolding is_ahead
returns-then-not-stands_ahead c =
    sym (ap is_none (searched_hit c.loop-i-test.true
    (outcome c.args.vertices.now c.args.normal c.loop-i.i c.vertex_at.ensures c.stands_ahead.ensures c.if-not-stands_ahead.true)
    c.loop-i.invariant.1))

pub loop-i-preserved : goal.loop-i-preserved
loop-i-preserved c =
    let h = c.loop-i-test.true in (
      omega arith,
      searched_step h
          (outcome c.args.vertices.now c.args.normal c.loop-i.i c.vertex_at.ensures c.stands_ahead.ensures
          c.if-not-stands_ahead.false) c.loop-i.invariant.1,
    )

pub returns : goal.returns
unfolding is_ahead
returns c = let h = c.loop-i-test.false in sym (ap is_none (searched_end (omega arith) c.loop-i.invariant.1))

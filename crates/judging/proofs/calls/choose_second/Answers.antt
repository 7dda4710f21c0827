-- `choose_second` meets its contract: line 10 for the candidates, lines 10 and 28 for the outline, then 10 to 16, and
-- then the candidates.
use Rattle.std.proofs.Common.{rules, ◌≡◌, [], ◌∷◌, true, ap, eq-eqb}
use borrow.Author.Tests.{ne_eqb}
use Rattle.std.specs.declared.result.Result.TheVariants.{Ok, Err}
use Rattle.sphere.specs.Point.{limit_of}
use Rattle.polygon.specs.Checks.{accept_check}
use Rattle.polygon.specs.Vertices.{vertex_at}
use Rattle.polygon.specs.Pair.{is_whole, choose_of, earliest_of}
use Rattle.polygon.specs.Grids.{is_mixed, grid_check, grid_choose_of}
use Rattle.judging.proofs.Laws.Accept.{room_any, after_boxed}
use Rattle.judging.proofs.calls.choose_second.Goals as goal

pub returns-then-candidates-ne0 : goal.returns-then-candidates-ne0
unfolding grid_choose_of
returns-then-candidates-ne0 c = rw (ne_eqb _ _ c.if-candidates-ne0.true) (ap Err c.at.ensures)

pub accept_boxed-requires : goal.accept_boxed-requires
accept_boxed-requires c = room_any c.args.vertices.now _ (search rules)

pub earliest-requires-clause-accepted : goal.earliest-requires-clause-accepted
earliest-requires-clause-accepted c =
    let s = c.args in
    let vs = s.vertices.now in
    let ok : accept_check (limit_of s.grid) s.vertices.now s.known.point ≡ Ok tt = search rules in (
      ok,
      rw (c.accept_boxed.ensures.1, ok)
          (after_boxed (limit_of s.grid) vs s.known.point _ ok (room_any vs _ (search rules))),
    )

pub returns : goal.returns
unfolding grid_choose_of choose_of earliest_of
returns c =
    let s = c.args in
    let whole : is_whole s.candidates.now ≡ true = eq-eqb _ _ c.if-candidates-ne0.false in
    let u : grid_check s.vertices.now (is_mixed s.grid (s.known.grid ∷ s.candidates_grid ∷ [])) ≡ Ok tt = search rules in
    let ok : accept_check (limit_of s.grid) s.vertices.now s.known.point ≡ Ok tt = search rules in
    rw (whole, u, ok) (c.earliest.ensures (vertex_at s.candidates.now) (λ i p h told. told))

-- `is_on_border` meets its contract: border is worked out only where the edge holds the query, and then each edge that
-- is coincident with it is listed.
use mathlib.Core.Path.{◌≡◌, sym, ◌∙◌}
use mathlib.Core.Bool.{Bool}
use mathlib.Core.List.{List}
use native.Mathlib.Omega.{arith}
use Prim.Native.Nat.{ℕ}
use lib.IntN.{ℤ}
use Rattle.sphere.specs.declared.point.Point.{Point}
use Rattle.sphere.specs.OnEdge.{is_on_edge}
use Rattle.sphere.proofs.Laws.Plane.{grid→fine}
use Rattle.polygon.specs.Vertices.{start_of, end_of}
use Rattle.polygon.specs.Verdict.{is_held_by}
use Rattle.polygon.proofs.Laws.Checks.{gridded_fine}
use Rattle.polygon.proofs.Laws.Edges.{end_within}
use Rattle.search.proofs.Laws.Arc.{reference}
use Rattle.search.proofs.Laws.Coincident.{earlier_not_border}
use Rattle.cones.proofs.Laws.Coincident.{list_coincident}
use Rattle.cones.proofs.walk.is_on_border.Goals as goal

pub on_edge_by-requires-clause-within : goal.on_edge_by-requires-clause-within
on_edge_by-requires-clause-within c =
    let p = c.requires.accepted_arc in
    let g = c.args.arc.plane.grid in
    let grid = gridded_fine g (reference p.0).accepted.gridded in (
      rw c.vertex_at.ensures (grid.each c.args.i p.1),
      end_within grid p.1 c.end_of.ensures,
      grid→fine g p.0.sound.query,
    )

-- What the test says of edge i.
held : (vs : List ℤ) (P : Point) (i : ℕ) {A B : Point} {t u : Bool} → A ≡ start_of vs i → B ≡ end_of vs i → t ≡ is_on_edge A B P →
    t ≡ u → is_held_by vs P i ≡ u
held vs P i p q e h = sym (λ j. is_on_edge (p j) (q j) P) ∙ sym e ∙ h

pub is_border-requires-clause-listed : goal.is_border-requires-clause-listed
is_border-requires-clause-listed c =
    let a = c.args in
    let p = c.requires.accepted_arc in
    let r = reference p.0 in
    let h = held a.vertices.now a.arc.to a.i c.vertex_at.ensures c.end_of.ensures c.on_edge_by.ensures c.if-on_edge_by.true in (
      r.accepted.listed,
      gridded_fine a.arc.plane.grid r.accepted.gridded,
      p.1,
      record { tell = earlier_not_border a.vertices.now a.arc.from a.arc.to r.off_circle a.i p.1 h p.2 },
    )

pub is_border-requires-clause-complete : goal.is_border-requires-clause-complete
is_border-requires-clause-complete c =
    let a = c.args in
    let p = c.requires.accepted_arc in
    let list = c.requires.complete in
    let h = held a.vertices.now a.arc.to a.i c.vertex_at.ensures c.end_of.ensures c.on_edge_by.ensures c.if-on_edge_by.true in record {
      some = list.some;
      within = list.within;
      covers =
          list_coincident a.vertices.now a.arc.from a.arc.to (reference p.0).off_circle a.i p.1 h (omega arith)
          list.covers;
    }

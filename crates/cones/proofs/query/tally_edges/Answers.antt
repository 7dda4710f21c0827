-- `tally_edges` meets its contract: the query's azimuth is in the node's cone, for which its list is complete, or the
-- boxes are asked.
use mathlib.Core.Path.{◌≡◌, sym, ◌∙◌, ap, ap₂, subst}
use mathlib.Core.Bool.{Bool, true, ◌&&◌}
use mathlib.Core.List.{List}
use Prim.Native.Nat.{ℕ, ◌-◌, ◌≤◌, ◌<◌}
use native.Mathlib.Omega.{arith}
use borrow.Author.Tests.{ltb-true, leb-true}
use lib.Dec.{ltb}
use lib.IntN.{ℤ}
use mir.Syntax.{w64}
use Rattle.integers.proofs.Compare.{result_same}
use Rattle.sphere.specs.declared.point.Grid.{Grid}
use Rattle.sphere.specs.declared.point.Point.{Point}
use Rattle.sphere.specs.Point.{fine, limit_of, Fits, Within}
use Rattle.std.specs.declared.result.Result.TheVariants.{Ok}
use Rattle.polygon.specs.Checks.{accept_check}
use Rattle.azimuths.specs.declared.azimuth.Frame.{Frame}
use Rattle.cones.specs.declared.build.Index.{Index}
use Rattle.cones.specs.Table.{Built}
use Rattle.sphere.specs.Orientation.{dot_of}
use Rattle.sphere.proofs.Laws.Grid.{points_dot}
use Rattle.sphere.proofs.Laws.Plane.{grid→fine}
use Rattle.answer.proofs.Laws.Chain.{both_true}
use Rattle.polygon.specs.Vertices.{vertices_count}
use Rattle.polygon.proofs.Laws.Checks.{accept_passed, reference_accepted}
use Rattle.search.specs.Arc.{arc_of}
use Rattle.search.specs.Walk.{tally_from}
use Rattle.search.proofs.Laws.Arc.{arc_searchable}
use Rattle.azimuths.specs.Azimuth.{seen, azimuth_by, azimuth_of, AsideIf}
use Rattle.azimuths.proofs.Laws.SectorsTo.{dot_seen}
use Rattle.azimuths.proofs.Laws.Sectors.{telling}
use Rattle.cones.proofs.Laws.Index.{row_complete}
use Rattle.cones.proofs.query.tally_edges.Goals as goal

-- The frame and the query are within the fine grid.
module _ (grid : Grid) (vs : List ℤ) (X P : Point) {sectors table list : List ℕ} {index : Index}
    (accepted : accept_check (limit_of grid) vs X ≡ Ok tt) (query : Within (limit_of grid) P)
    (built : Built vs X sectors table list index) where
  frame : Within fine index.frame.east × Within fine index.frame.north × Within fine P
  frame =
      let w = built.frame.within fine (grid→fine grid (accept_passed accepted).known) in (w.0, w.1, grid→fine grid query)

-- The azimuth as the local holds it is the query's.
azimuth_same : (F : Frame) (P : Point) {u v : ℤ} {k : ℕ} → u ≡ dot_of F.east P → v ≡ dot_of F.north P → k ≡ azimuth_by u v →
    k ≡ azimuth_of F P
unfolding azimuth_of
azimuth_same F P e f q = q ∙ ap₂ azimuth_by e f

-- The node is there.
there : (aside : Bool) {g nodes : ℕ} → (aside && ltb 0 g) ≡ true → g ≤ nodes → g - 1 < nodes
there aside {g} h most = let some = ltb-true 0 g (both_true aside _ h).1 in omega arith

pub dot-u-requires : goal.dot-u-requires
dot-u-requires c =
    let p = c.requires in
    let w = frame c.args.grid _ _ c.args.query p.known_value.0 p.known_value.1 p.built in points_dot w.0 w.2

pub dot-v-requires : goal.dot-v-requires
dot-v-requires c =
    let p = c.requires in
    let w = frame c.args.grid _ _ c.args.query p.known_value.0 p.known_value.1 p.built in points_dot w.1 w.2

pub azimuth_by-k-requires : goal.azimuth_by-k-requires
azimuth_by-k-requires c =
    let a = c.args in
    let p = c.requires in
    let w = frame a.grid _ _ a.query p.known_value.0 p.known_value.1 p.built in (
      subst (Fits seen) (sym (result_same w64 c.dot-u.result c.dot-u.type_inv c.dot-u.ensures))
          (dot_seen a.index.frame.east a.query w.0 w.2),
      subst (Fits seen) (sym (result_same w64 c.dot-v.result c.dot-v.type_inv c.dot-v.ensures))
          (dot_seen a.index.frame.north a.query w.1 w.2),
    )

pub overflow_sub-to : goal.overflow_sub-to
overflow_sub-to c =
    let row = c.row_at-row.ensures in
    let node = c.requires.built.indexed.each _ (there c.is_aside.result c.if-is_aside-g.true c.guess-g.ensures) in
    omega (arith, row.from, row.to, node.complete.some)

pub tally_near-requires-clause-known_value : goal.tally_near-requires-clause-known_value
tally_near-requires-clause-known_value c =
    let p = c.requires.known_value in (p.0, p.1, leb-true _ _ (both_true _ _ c.if-row-k.true).1)

pub tally_near-requires-clause-telling : goal.tally_near-requires-clause-telling
tally_near-requires-clause-telling c =
    let a = c.args in
    let p = c.requires in
    let east = result_same w64 c.dot-u.result c.dot-u.type_inv c.dot-u.ensures in
    let north = result_same w64 c.dot-v.result c.dot-v.type_inv c.dot-v.ensures in
    let off = (reference_accepted _ a.vertices.now a.known p.known_value.0).off_circle in
    let h = subst (AsideIf _ _) (both_true c.is_aside.result (ltb 0 c.guess-g.result) c.if-is_aside-g.true).0 c.is_aside.ensures in
    rw (azimuth_same a.index.frame a.query east north c.azimuth_by-k.ensures)
    (telling p.built.frame off p.built.sectors-of a.query (record { seen_from = λ e f. h (east ∙ e) (north ∙ f) }))

pub tally_near-requires-clause-complete : goal.tally_near-requires-clause-complete
tally_near-requires-clause-complete c =
    let node = c.requires.built.indexed.each _ (there c.is_aside.result c.if-is_aside-g.true c.guess-g.ensures) in
    let inside = both_true _ _ (both_true _ _ c.if-row-k.true).0 in
    row_complete c.row_at-row.ensures node (leb-true _ _ inside.0) (leb-true _ _ inside.1)

-- Where the boxes are asked.
pub arc_between-arc-requires : goal.arc_between-arc-requires
arc_between-arc-requires c =
    ((accept_passed c.requires.known_value.0).known, c.requires.known_value.1)

pub tally_arc-requires : goal.tally_arc-requires
tally_arc-requires c =
    let a = c.args in
    let p = c.requires.known_value in
    arc_searchable a.grid a.known a.query _ p.0 p.1 p.2 c.arc_between-arc.ensures

pub returns : goal.returns
unfolding arc_of
returns c =
    let vs = c.args.vertices.now in
    c.tally_arc.ensures ∙ ap (λ b. tally_from vs b.from b.to 0 (vertices_count vs)) c.arc_between-arc.ensures

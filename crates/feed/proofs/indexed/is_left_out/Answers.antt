-- `is_left_out` meets its contract: a query that is not off the grid is within it.
use Rattle.std.proofs.Common.{◌≡◌, sym, ◌∙◌, false, eq-eqb}
use mathlib.Core.Bool.{true≢false}
use Rattle.sphere.specs.Point.{limit_of, is_off_grid}
use Rattle.sphere.proofs.Laws.Grid.{off-grid→within}
use Rattle.sphere.proofs.Laws.Plane.{grid→fine}
use Rattle.feed.proofs.indexed.is_left_out.Goals as goal
use Rattle.feed.proofs.indexed.is_left_out.Goals.{then-nodes-eq0, else-nodes-eq0}

pub antipodal-requires : goal.antipodal-requires
antipodal-requires c =
    let g = c.args.grid in
    let gridded : is_off_grid (limit_of g) c.args.query ≡ false = elim c.if-nodes-eq0.branch [
      | then-nodes-eq0 w ↦ absurd (true≢false (sym (eq-eqb _ _ w.if-nodes-eq0.true) ∙ sym w.value-is ∙ c.if-is_off_grid.false))
      | else-nodes-eq0 w ↦ sym w.is_off_grid.ensures ∙ sym w.value-is ∙ c.if-is_off_grid.false
    ] in
    (grid→fine g c.requires, grid→fine g (off-grid→within (limit_of g) c.args.query gridded))

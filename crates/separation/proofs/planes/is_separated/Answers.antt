-- `is_separated` meets its contract.
use Rattle.std.proofs.Common.{◌≡◌, Bool, true, not, sym, ap, ◌∙◌}
use mathlib.Core.Bool.{false≢true}
use borrow.Author.Tests.{not-true}
use Rattle.sphere.specs.Point.{limit_of}
use Rattle.separation.proofs.Laws.Screened.{on_grid_fine, on_grid_passed}
use Rattle.separation.proofs.planes.is_separated.Goals as goal
use Rattle.separation.proofs.planes.is_separated.Goals.{then-not-is_off_grid, else-not-is_off_grid}

off : {A : Type 0} {b : Bool} → not b ≡ true → b ≡ true → A
off h e = absurd (false≢true (ap not (sym e) ∙ h))

pub is_behind-requires : goal.is_behind-requires
is_behind-requires c = (c.requires.0, on_grid_fine c.args.grid _ (sym c.is_off_grid.ensures ∙ c.if-not-is_off_grid.true))

pub antipodal-requires : goal.antipodal-requires
antipodal-requires c = (
  c.requires.1,
  elim c.if-not-is_off_grid.branch [
    | then-not-is_off_grid w ↦ on_grid_fine c.args.grid _ (sym c.is_off_grid.ensures ∙ w.if-not-is_off_grid.true)
    | else-not-is_off_grid w ↦ off (sym w.value-is ∙ c.if-is_behind.true) w.if-not-is_off_grid.false
  ],
)

pub returns-then-is_behind : goal.returns-then-is_behind
returns-then-is_behind c = λ e. elim c.if-not-is_off_grid.branch [
  | then-not-is_off_grid w ↦ record {
    on_grid_lem = on_grid_passed (limit_of c.args.grid) c.args.query (sym c.is_off_grid.ensures ∙ w.if-not-is_off_grid.true);
    near = sym c.antipodal.ensures ∙ not-true c.antipodal.result e;
    behind = w.is_behind.ensures (sym w.value-is ∙ c.if-is_behind.true);
  }
  | else-not-is_off_grid w ↦ off (sym w.value-is ∙ c.if-is_behind.true) w.if-not-is_off_grid.false
]

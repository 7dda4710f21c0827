-- What is told of a sheet. Proved, in order: gridded_of (the vertices of an accepted polygon are on the fine grid),
-- behind_plane, far_refused, far_none, far_found.
use mathlib.Core.Path.{◌≡◌, ◌∙◌, ap}
use mathlib.Core.Bool.{true, false, false≢true}
use mathlib.Core.List.{List}
use Prim.Native.Nat.{ℕ, ◌≤◌}
use lib.IntN.{ℤ}
use Rattle.sphere.specs.declared.point.Grid.{Grid}
use Rattle.sphere.specs.declared.point.Point.{Point}
use Rattle.sphere.specs.Point.{fine, limit_of}
use Rattle.std.specs.declared.result.Result.TheVariants.{Ok, Err}
use Rattle.answer.specs.declared.Refusal.{Refusal}
use Rattle.answer.specs.Refusal.{reason_number}
use Rattle.answer.specs.Answer.{number_of}
use Rattle.polygon.specs.Vertices.{vertices_count}
use Rattle.polygon.specs.Accepted.{Gridded}
use Rattle.polygon.specs.Pair.{optional_check}
use Rattle.polygon.proofs.Laws.Checks.{accept_passed, gridded_fine}
use Rattle.polygon.proofs.Laws.Pair.{optional_first}
use Rattle.separation.specs.Planes.{Behind}
use Rattle.sheet.specs.Sheet.{sheet_check}
use Rattle.zone.specs.Judge.{sheet_answer_of}
use Rattle.extent.specs.declared.measure.Extent.{Extent}
use Rattle.extent.specs.Extent.{Plane, far_of, FarNumber, Told}

pub gridded_of : (g : Grid) (vs : List ℤ) (X Y : Point) → optional_check (limit_of g) vs X Y ≡ Ok tt →
    Gridded fine vs × (3 ≤ vertices_count vs)
gridded_of g vs X Y x =
    let a = accept_passed (optional_first (limit_of g) vs X Y x) in (gridded_fine g a.gridded, a.listed.least)

pub behind_plane : {vs : List ℤ} {P : Point} → Behind vs P → Plane vs
behind_plane b = record { normal = b.normal; ahead = b.separates.ahead }

-- ---- the far side
pub far_refused : (b : List ℕ) {refusal : Refusal} → sheet_check b ≡ Err refusal →
    FarNumber b (reason_number refusal.reason)
unfolding far_of
far_refused b h = record { found = false; plane = λ e. absurd (false≢true e); same = rw h }

pub far_none : (b : List ℕ) → sheet_check b ≡ Ok tt → FarNumber b 0
unfolding far_of
far_none b h = record { found = false; plane = λ e. absurd (false≢true e); same = rw h }

pub far_found : (b : List ℕ) {e : Extent} {r : ℕ} → Told b (Ok e) → e.found ≡ true → r ≡ number_of e.far → FarNumber b r
unfolding far_of sheet_answer_of
far_found b t f k =
    record { found = true; plane = λ _ _. t.1.plane f; same = k ∙ ap number_of t.1.far ∙ rw t.0 }

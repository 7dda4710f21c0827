-- How far a zone reaches, by its sheet's bytes. Defined, in order: Plane (a plane with all vertices strictly ahead),
-- far_of, FarNumber (what is told of the far side); is_outside, is_bounded (the zone has a box of its own); BoxFor,
-- Measured, Told (what the code holds of a polygon, and of a sheet). Which plane is found, and whether one is, is a
-- hint: no definition says it. The box in bytes is in specs/Boxes.
use Rattle.std.specs.Prelude.{◌≡◌, Bool, true, false, cond, ◌&&◌, List, ℕ, ℤ, Result, Option}
use Rattle.sphere.specs.declared.point.Point.{Point}
use Rattle.sphere.specs.Point.{limit_of}
use Rattle.std.specs.declared.option.Option.TheVariants.{None, Some}
use Rattle.std.specs.declared.result.Result.TheVariants.{Ok, Err}
use Rattle.answer.specs.declared.Refusal.{Refusal}
use Rattle.answer.specs.Refusal.{Answer}
use Rattle.answer.specs.declared.Verdict.TheVariants.{Done, Inside, Outside, Boundary}
use Rattle.answer.specs.Answer.{number_of, answer_after}
use Rattle.polygon.specs.Verdict.{answer_of}
use Rattle.polygon.specs.Pair.{judge_from}
use Rattle.separation.specs.Separation.{Ahead, away_of}
use Rattle.fields.specs.Fields.{grid_of}
use Rattle.sheet.specs.Sheet.{known_of, vertices_of, second_of, sheet_check}
use Rattle.zone.specs.Judge.{sheet_answer_of}
use Rattle.extent.specs.declared.measure.Extent.{Extent}
use Rattle.extent.specs.declared.sides.Sides.{Sides}
use Rattle.extent.specs.Sides.{is_fronted, Encloses}

pub record Plane (vs : List ℤ) : Type 0 where
  pub normal : Point
  pub ahead : Ahead vs normal

-- With a plane found, the single call's answer to the antipode of vertex 0; without one 0; before either the sheet's
-- refusal.
unfoldable pub far_of : List ℕ → Bool → Answer
far_of b found = cond found (sheet_answer_of b (away_of (vertices_of b))) (answer_after (sheet_check b) (Ok (Done 0)))

-- The number r is that answer's, and a plane that was found is there.
pub record FarNumber (b : List ℕ) (r : ℕ) : Type 0 where
  pub found : Bool
  pub plane : found ≡ true → sheet_check b ≡ Ok tt → Plane (vertices_of b)
  pub same : r ≡ number_of (far_of b found)

-- ---- a box of its own: all vertices are strictly on one side of a coordinate plane, and the far side is outside

abbrev pub is_outside : Answer → Bool
is_outside (Ok (Done place)) = false
is_outside (Ok (Inside crossed sum)) = false
is_outside (Ok (Outside crossed sum)) = true
is_outside (Ok (Boundary edge)) = false
is_outside (Err refusal) = false

abbrev pub is_bounded : List ℤ → Answer → Bool
is_bounded vs far = is_fronted vs && is_outside far

-- ---- what the code holds

-- The box of a zone that has one of its own, and of no other.
abbrev pub BoxFor : List ℤ → Bool → Option Sides → Type 0
BoxFor vs bounded (Some s) = (bounded ≡ true) × Encloses vs s
BoxFor vs bounded None = bounded ≡ false

pub record Measured (limit : ℕ) (vs : List ℤ) (X Y : Point) (e : Extent) : Type 0 where
  pub plane : e.found ≡ true → Plane vs
  pub far : e.far ≡ answer_of limit vs (judge_from X Y (away_of vs)) (away_of vs)
  pub own : BoxFor vs (is_bounded vs e.far) e.own

abbrev pub Told : List ℕ → Result Extent Refusal → Type 0
Told b (Ok e) =
    (sheet_check b ≡ Ok tt) × Measured (limit_of (grid_of b)) (vertices_of b) (known_of b) (second_of b) e
Told b (Err refusal) = sheet_check b ≡ Err refusal

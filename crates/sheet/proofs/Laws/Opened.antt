-- What opening hands to judging, of a sheet whose plain checks passed: the vertices stand in front of the scratch space
-- (opened_row, opened_room), they are accepted with the known point (opened_accepted), and the boxes are theirs
-- (opened_boxed); of a sheet that passed them all, with the second point too (opened_optional).
use mathlib.Core.Path.{◌≡◌, sym, ap, ap₂, ◌∙◌, subst}
use mathlib.Core.List.{List}
use Prim.Native.Nat.{ℕ, ◌*◌, ◌≤◌}
use lib.IntN.{ℤ}
use lib.ListN.{length, take}
use Rattle.sphere.specs.Point.{limit_of}
use Rattle.std.specs.declared.result.Result.TheVariants.{Ok}
use Rattle.polygon.specs.Checks.{accept_check}
use Rattle.polygon.specs.Pair.{optional_check}
use Rattle.search.specs.Boxes.{Boxed}
use Rattle.judging.specs.Accept.{boxed_after}
use Rattle.judging.proofs.Laws.Accept.{after_boxed}
use Rattle.fields.specs.Fields.{grid_of}
use Rattle.fields.proofs.Laws.Parts.{passed_value, refused_value}
use Rattle.sheet.specs.declared.open.Opened.{Opened}
use Rattle.sheet.specs.Sheet.{known_of, vertices_of, plain_check, sheet_check, loaded_after}
use Rattle.sheet.specs.Open.{opened_of, BoxesFor, decoded_of}
use Rattle.sheet.proofs.Laws.Places.{vertices_stand}
use Rattle.sheet.proofs.Laws.Reads.{fields_five, plain_passed, decoded_by, loaded_row, loaded_room, sheet_plain, sheet_five, sheet_optional, taken}

module _ (b : List ℕ) (before : List ℤ) {o : Opened} {left : List ℤ} (d : left ≡ decoded_of b before) (e : o ≡ opened_of b)
    (ok : plain_check b ≡ Ok tt) where
  front : left ≡ loaded_after (Ok tt) b before
  front = d ∙ decoded_by b before (plain_passed b ok).0

  pub opened_row : take (o.count * 3) left ≡ vertices_of b
  opened_row = ap₂ (λ (k : ℕ) (l : List ℤ). take (k * 3) l) (ap (λ o. o.count) e) front ∙ loaded_row b _

  pub opened_room : o.count * 3 ≤ length left
  opened_room = rw (ap (λ o. o.count) e, front) (loaded_room b _)

  pub opened_accepted : accept_check (limit_of o.grid) (take (o.count * 3) left) o.known ≡ Ok tt
  opened_accepted = (λ j. accept_check (limit_of (e j).grid) (opened_row j) (e j).known) ∙ (plain_passed b ok).1

  pub opened_boxed : {boxes : List ℤ} (room : List ℤ) → boxes ≡ boxed_after (plain_check b) (vertices_of b) room →
      BoxesFor b room → Boxed (take (o.count * 3) left) boxes
  opened_boxed room f fits =
      let accepted = plain_passed b ok in
      let filled = f ∙ ap (λ k. boxed_after k (vertices_of b) room) ok in
      rw opened_row
      (subst (Boxed (vertices_of b)) (sym filled)
      (after_boxed (limit_of (grid_of b)) (vertices_of b) (known_of b) room accepted.1 (fits.enough (fields_five b accepted.0))))

pub ruleset polygon = (opened_row, opened_room, opened_accepted, opened_boxed)

-- And its second point, once all checks passed.
pub opened_optional : (b : List ℕ) (before : List ℤ) {o : Opened} {left : List ℤ} → left ≡ decoded_of b before →
    o ≡ opened_of b → sheet_check b ≡ Ok tt →
    optional_check (limit_of o.grid) (take (o.count * 3) left) o.known o.second ≡ Ok tt
opened_optional b before d e ok =
    let row = opened_row b before d e (sheet_plain b ok) in
    (λ j. optional_check (limit_of (e j).grid) (row j) (e j).known (e j).second) ∙ sheet_optional b ok

-- All that a caller needs after opening: what was said, that the plain checks and the fields passed, and the above.
pub ruleset opened = (
  passed_value,
  refused_value,
  sheet_plain,
  sheet_five,
  vertices_stand,
  opened_row,
  opened_room,
  opened_accepted,
  opened_boxed,
  opened_optional,
  taken,
)

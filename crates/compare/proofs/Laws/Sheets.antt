-- What an accepted sheet's points are known to be, on either grid: points of the fine one, whose directions can be
-- compared. Proved, in order: known_fine, second_fine, ring_sound; accepted_name, accepted_known,
-- accepted_second, read_checked, read_parts (what reading handed back).
use mathlib.Core.Path.{◌≡◌, refl, ap}
use mathlib.Core.Bool.{Bool, true, false}
use mathlib.Core.List.{List}
use Prim.Native.Nat.{ℕ, zero-le}
use native.Mathlib.Omega.{arith}
use lib.IntN.{pos}
use Rattle.sphere.specs.Point.{fine, limit_of, Fits, Within, is_null}
use Rattle.sphere.proofs.Laws.Orientation.{null→origin}
use Rattle.sphere.proofs.Laws.Plane.{grid→fine}
use Rattle.polygon.specs.Vertices.{vertices_count}
use Rattle.polygon.proofs.Laws.Checks.{accept_passed, gridded_fine}
use Rattle.polygon.proofs.Laws.Pair.{optional_second}
use Rattle.answer.specs.Refusal.{Check, Answer}
use Rattle.fields.specs.Fields.{grid_of, five_fields}
use Rattle.sheet.specs.declared.read.Sheet.{Sheet}
use Rattle.sheet.specs.Sheet.{name_length, known_of, vertices_of, second_of, sheet_check, read_after, read_of}
use Rattle.sheet.proofs.Laws.Reads.{sheet_five, sheet_accepted, sheet_optional}
use Rattle.compare.specs.Ring.{ring_of, Sound}
use Rattle.compare.specs.Differences.{Accepted}
use Rattle.compare.proofs.Laws.Ring.{ring_count}
use Rattle.std.specs.declared.result.Result.TheVariants.{Ok, Err}

nought : Fits fine (pos 0)
nought = record { within = zero-le }

module _ (b : List ℕ) (e : sheet_check b ≡ Ok tt) where
  pub known_fine : Within fine (known_of b)
  known_fine = grid→fine (grid_of b) (accept_passed (sheet_accepted b e)).known

  -- A second point, or none.
  pub second_fine : Within fine (second_of b)
  second_fine = go (is_null (second_of b)) refl
    where
      go : (none : Bool) → is_null (second_of b) ≡ none → Within fine (second_of b)
      go true null =
          rw (null→origin (second_of b) (rw null tt)) (record { at_x = nought; at_y = nought; at_z = nought })
      go false some =
          let second = optional_second (limit_of (grid_of b)) (vertices_of b) (known_of b) (second_of b) in
          grid→fine (grid_of b) (accept_passed (second (sheet_optional b e) some).accepted).known

  pub ring_sound : {ring : List ℕ} → ring_of ring ≡ vertices_of b → Sound ring
  ring_sound {ring} same =
      let accepted = accept_passed (sheet_accepted b e) in
      record {
        few = omega (arith, ring_count ring, ap vertices_count same, accepted.listed.most);
        gridded = rw same (gridded_fine (grid_of b) accepted.gridded);
      }

-- ---- what reading handed back of one
module _ {b : List ℕ} {s : Sheet} (a : Accepted b s) where
  pub accepted_name : (five_fields b ≡ Ok tt) × (s.name_len ≡ name_length b)
  accepted_name = (sheet_five b a.checked, ap (λ s. s.name_len) a.parts)

  pub accepted_known : Within fine s.known
  accepted_known = rw a.parts (known_fine b a.checked)

  pub accepted_second : Within fine s.second
  accepted_second = rw a.parts (second_fine b a.checked)

-- What reading says of the checks.
abbrev check_of : Answer → Check
check_of (Ok verdict) = Ok tt
check_of (Err refusal) = Err refusal

pub read_checked : (b : List ℕ) → sheet_check b ≡ check_of (read_of b).answer
unfolding read_of
read_checked b = go (sheet_check b)
  where
    go : (c : Check) → c ≡ check_of (read_after c b).answer
    go (Ok unit) = refl
    go (Err refusal) = refl

pub read_parts : (b : List ℕ) → read_of b ≡ read_after (sheet_check b) b
unfolding read_of
read_parts b = refl

pub ruleset reads = (read_checked, read_parts)

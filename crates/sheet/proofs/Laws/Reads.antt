-- What reading hands back and leaves, case by case. Proved, in order: fields_sound, fields_five, plain_passed,
-- plain_five, plain_polygon; second_absent, second_present; sheet_second, sheet_plain, sheet_fields_lem, sheet_sound,
-- sheet_five, sheet_accepted, sheet_optional; read_refused, read_accepted; loaded_by, decoded_by,
-- loaded_row, loaded_room; taken.
use mathlib.Core.Path.{◌≡◌, refl, sym, ap, ◌∙◌}
use mathlib.Core.Bool.{Bool, true, false, cond}
use mathlib.Core.List.{List, ◌++◌}
use Prim.Native.Nat.{ℕ, ◌+◌, ◌*◌, ◌≤◌}
use native.Mathlib.Omega.{arith}
use lib.IntN.{ℤ}
use lib.ListN.{length, take, length-append}
use lib.Seq.{take_at, length-take-le}
use Rattle.sphere.specs.Point.{limit_of, is_null}
use Rattle.big_endian.specs.Bytes.{point_at}
use Rattle.big_endian.proofs.Laws.Rows.{ints_at-length}
use Rattle.std.specs.declared.result.Result.TheVariants.{Ok, Err}
use Rattle.answer.specs.declared.Refusal.{Refusal}
use Rattle.answer.specs.Refusal.{Check}
use Rattle.answer.specs.Chain.{◌then◌}
use Rattle.polygon.specs.Checks.{accept_check}
use Rattle.polygon.specs.Pair.{second_check, optional_check, no_second}
use Rattle.answer.proofs.Laws.Chain.{then_passed}
use Rattle.judging.proofs.Laws.From.{none_null}
use Rattle.fields.specs.Fields.{vertices_start, grid_of, second_start, has_second_point, five_fields, sheet_fields, rest_check}
use Rattle.fields.specs.Fields.{fields_check}
use Rattle.sheet.specs.Sheet.{known_of, vertex_count_of, vertices_of, second_of, plain_check, sheet_second_check}
use Rattle.sheet.specs.Sheet.{sheet_check}
use Rattle.sheet.specs.Sheet.{refused_sheet, read_after, read_of, loaded_after, loaded_of}
use Rattle.sheet.specs.Open.{decoded_of}
use Rattle.fields.proofs.Laws.Fields.{five_passed}

module _ (b : List ℕ) where
  pub fields_sound : fields_check b ≡ Ok tt → sheet_fields b ≡ Ok tt
  unfolding fields_check
  fields_sound e = (then_passed (sheet_fields b) (rest_check b) e).0

  pub fields_five : fields_check b ≡ Ok tt → five_fields b ≡ Ok tt
  fields_five e = five_passed b (fields_sound e)

  -- ---- without the second point: the fields are sound and the polygon is accepted
  pub plain_passed :
      plain_check b ≡ Ok tt →
      (fields_check b ≡ Ok tt) × (accept_check (limit_of (grid_of b)) (vertices_of b) (known_of b) ≡ Ok tt)
  unfolding plain_check
  plain_passed e = then_passed (fields_check b) (accept_check (limit_of (grid_of b)) (vertices_of b) (known_of b)) e

  pub plain_five : plain_check b ≡ Ok tt → five_fields b ≡ Ok tt
  plain_five e = fields_five (plain_passed e).0

  pub plain_polygon :
      fields_check b ≡ Ok tt → plain_check b ≡ accept_check (limit_of (grid_of b)) (vertices_of b) (known_of b)
  unfolding plain_check
  plain_polygon e = rw e

  -- ---- the second point
  pub second_absent : has_second_point b ≡ false → (second_of b ≡ no_second) × (sheet_second_check b ≡ Ok tt)
  unfolding second_of sheet_second_check
  second_absent e = (rw e, rw e)

  pub second_present : has_second_point b ≡ true →
      (second_of b ≡ point_at b (second_start b + 3))
      × (sheet_second_check b ≡ second_check (limit_of (grid_of b)) (vertices_of b) (known_of b) (second_of b))
  unfolding second_of sheet_second_check
  second_present e = (rw e, rw e)

  -- ---- with it
  pub sheet_second : plain_check b ≡ Ok tt → sheet_check b ≡ sheet_second_check b
  unfolding sheet_check
  sheet_second e = rw e

  module _ (e : sheet_check b ≡ Ok tt) where
    pub sheet_plain : plain_check b ≡ Ok tt
    unfolding sheet_check
    sheet_plain = (then_passed (plain_check b) (sheet_second_check b) e).0

    pub sheet_fields_lem : fields_check b ≡ Ok tt
    sheet_fields_lem = (plain_passed sheet_plain).0

    pub sheet_sound : sheet_fields b ≡ Ok tt
    sheet_sound = fields_sound sheet_fields_lem

    pub sheet_five : five_fields b ≡ Ok tt
    sheet_five = fields_five sheet_fields_lem

    pub sheet_accepted : accept_check (limit_of (grid_of b)) (vertices_of b) (known_of b) ≡ Ok tt
    sheet_accepted = (plain_passed sheet_plain).1

    -- Its points are accepted, one or both.
    pub sheet_optional : optional_check (limit_of (grid_of b)) (vertices_of b) (known_of b) (second_of b) ≡ Ok tt
    unfolding sheet_check optional_check
    sheet_optional = go (has_second_point b) refl (then_passed (plain_check b) (sheet_second_check b) e).1
      where
        either : (none : Bool) {c : Check} → c ≡ Ok tt → cond none (Ok tt) c ≡ Ok tt
        either true p = refl
        either false p = p

        go : (t : Bool) → has_second_point b ≡ t → sheet_second_check b ≡ Ok tt →
            (accept_check (limit_of (grid_of b)) (vertices_of b) (known_of b)
            then cond (is_null (second_of b)) (Ok tt)
            (second_check (limit_of (grid_of b)) (vertices_of b) (known_of b) (second_of b)))
            ≡ Ok tt
        go true has ok = rw sheet_accepted (either (is_null (second_of b)) (sym (second_present has).1 ∙ ok))
        go false has ok = rw (sheet_accepted, (second_absent has).0, none_null)

  pub read_refused : {refusal : Refusal} → sheet_check b ≡ Err refusal → read_of b ≡ refused_sheet refusal
  unfolding read_of
  read_refused e = ap (λ (c : Check). read_after c b) e

  pub read_accepted : sheet_check b ≡ Ok tt → read_of b ≡ read_after (Ok tt) b
  unfolding read_of
  read_accepted e = ap (λ (c : Check). read_after c b) e

  pub loaded_by : {c : Check} (out : List ℤ) → sheet_check b ≡ c → loaded_of b out ≡ loaded_after c b out
  unfolding loaded_of
  loaded_by out e = ap (λ (c : Check). loaded_after c b out) e

  pub decoded_by : {c : Check} (out : List ℤ) → fields_check b ≡ c → decoded_of b out ≡ loaded_after c b out
  unfolding decoded_of
  decoded_by out e = ap (λ (c : Check). loaded_after c b out) e

  -- The front of what is left is the vertices.
  pub loaded_row : (rest : List ℤ) → take (vertex_count_of b * 3) (vertices_of b ++ rest) ≡ vertices_of b
  loaded_row rest =
      take_at (vertices_of b) rest (vertex_count_of b * 3) (ints_at-length b (vertices_start b + 3) (vertex_count_of b * 3))

  pub loaded_room : (rest : List ℤ) → vertex_count_of b * 3 ≤ length (vertices_of b ++ rest)
  loaded_room rest =
      let all = length-append (vertices_of b) rest in
      let front = ints_at-length b (vertices_start b + 3) (vertex_count_of b * 3) in
      omega arith

-- The front of a list is as long as it is told.
pub taken : (n : ℕ) (l : List ℤ) → n ≤ length l → length (take n l) ≡ n
taken n l h = length-take-le n l h

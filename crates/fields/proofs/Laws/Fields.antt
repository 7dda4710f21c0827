-- One field. Proved, in order: field_passed, passed_field (a field that passes, and back), allowed_bounds,
-- bounds_allowed, passed_sound (a field that passed, as numbers), charset_field, charset_ends; passed_fields,
-- passed_spans, known_within (a sheet whose five fields passed); five_passed, second_passed, second_body, end_absent,
-- end_present, end_within (and its sixth).
use mathlib.Core.Path.{◌≡◌, refl}
use mathlib.Core.Bool.{Bool, true, false}
use mathlib.Core.List.{List}
use Prim.Native.Nat.{ℕ, ◌+◌, ◌%◌, ◌≤◌}
use native.Mathlib.Omega.{arith}
use borrow.Author.Tests.{le-ltb, le-leb, eq-eqb, ltb-false, eqb-true, leb-true, not-false}
use lib.ListN.{length}
use Rattle.big_endian.specs.Bytes.{byte_at, short_at}
use Rattle.std.specs.declared.result.Result.TheVariants.{Ok}
use Rattle.answer.specs.declared.Reason.TheVariants.{FieldCut, FieldLength, FieldTag}
use Rattle.answer.proofs.Laws.Chain.{here_passed, then_passed, both_true}
use Rattle.fields.specs.Fields.{is_allowed, field_check, field_end, charset_start, name_start, known_start}
use Rattle.fields.specs.Fields.{vertices_start, grid_of, tag_of, second_start, has_second_point, sheet_end, zone_check}
use Rattle.fields.specs.Fields.{charset_check, name_check, known_check, vertices_check, five_fields, second_field}
use Rattle.fields.specs.Fields.{sheet_fields}

-- What is so of a field that passes.
pub record Field (tag : ℕ) (isLength : ℕ → Bool) (b : List ℕ) (at : ℕ) : Type 0 where
  pub head : at + 3 ≤ length b
  pub tagged : byte_at b at ≡ tag
  pub allowed : isLength (short_at b (at + 1)) ≡ true
  pub body : field_end b at ≤ length b

module _ (tag : ℕ) (isLength : ℕ → Bool) (b : List ℕ) (at : ℕ) where
  pub field_passed : Field tag isLength b at → field_check tag isLength b at ≡ Ok tt
  unfolding field_check
  field_passed f =
      let h = le-ltb (length b) (at + 3) f.head in
      let t = eq-eqb (byte_at b at) tag f.tagged in
      rw (h, t, f.allowed, le-ltb (length b) (field_end b at) f.body)

  pub passed_field : field_check tag isLength b at ≡ Ok tt → Field tag isLength b at
  unfolding field_check
  passed_field e =
      let one = then_passed _ _ e in
      let two = then_passed _ _ one.1 in
      let three = then_passed _ _ two.1 in
      record {
        head = ltb-false (length b) (at + 3) (here_passed FieldCut at _ one.0);
        tagged = eqb-true (byte_at b at) tag (not-false _ (here_passed FieldTag at _ two.0));
        allowed = not-false _ (here_passed FieldLength at _ three.0);
        body = ltb-false (length b) (field_end b at) (here_passed FieldCut at _ three.1);
      }

-- ---- the lengths of a field that passed

pub record Allowed (least most step n : ℕ) : Type 0 where
  pub low : least ≤ n
  pub high : n ≤ most
  pub whole : n % step ≡ 0

pub allowed_bounds : (least most step n : ℕ) → is_allowed least most step n ≡ true → Allowed least most step n
unfolding is_allowed
allowed_bounds least most step n e =
    let one = both_true _ _ e in
    let two = both_true _ _ one.1 in
    record {
      low = leb-true least n one.0;
      high = leb-true n most two.0;
      whole = eqb-true (n % step) 0 two.1;
    }

pub bounds_allowed : (least most step n : ℕ) → Allowed least most step n → is_allowed least most step n ≡ true
unfolding is_allowed
bounds_allowed least most step n a =
    rw (le-leb least n a.low, le-leb n most a.high, eq-eqb (n % step) 0 a.whole)

-- Where the field ends, in numbers.
pub record Sound (least most step : ℕ) (b : List ℕ) (at : ℕ) : Type 0 where
  pub size : Allowed least most step (short_at b (at + 1))
  pub ends : at + 3 + short_at b (at + 1) ≤ length b

pub passed_sound :
    (tag least most step : ℕ) (b : List ℕ) (at : ℕ) → field_check tag (is_allowed least most step) b at ≡ Ok tt →
    Sound least most step b at
unfolding field_end
passed_sound tag least most step b at e =
    let f = passed_field tag (is_allowed least most step) b at e in
    record { size = allowed_bounds least most step _ f.allowed; ends = f.body }

pub charset_field : (b : List ℕ) → charset_check b ≡ Ok tt → field_check 2 (is_allowed 1 1 1) b charset_start ≡ Ok tt
unfolding charset_check
charset_field b e = (then_passed _ _ e).0

pub charset_ends : (b : List ℕ) → charset_check b ≡ Ok tt → 11 ≤ length b
charset_ends b e = let s = passed_sound 2 1 1 1 b charset_start (charset_field b e) in omega arith

-- ---- a sheet whose five fields passed

pub record Fields (b : List ℕ) : Type 0 where
  pub zone : zone_check b ≡ Ok tt
  pub charset : charset_check b ≡ Ok tt
  pub name : name_check b ≡ Ok tt
  pub known : known_check b ≡ Ok tt
  pub vertices : vertices_check b ≡ Ok tt

pub passed_fields : (b : List ℕ) → five_fields b ≡ Ok tt → Fields b
unfolding five_fields
passed_fields b e =
    let one = then_passed _ _ e in
    let two = then_passed _ _ one.1 in
    let three = then_passed _ _ two.1 in
    let four = then_passed _ _ three.1 in
    record { zone = one.0; charset = two.0; name = three.0; known = four.0; vertices = four.1 }

-- The same in numbers: where each field begins and ends.
pub record Spans (b : List ℕ) : Type 0 where
  pub name : Allowed 1 120 1 (short_at b 12)
  pub known_at : known_start b ≡ 14 + short_at b 12
  pub row : Allowed 36 49152 12 (short_at b (vertices_start b + 1))
  pub second_at : second_start b ≡ known_start b + 18 + short_at b (vertices_start b + 1)
  pub ends : second_start b ≤ length b

pub passed_spans : (b : List ℕ) → five_fields b ≡ Ok tt → Spans b
unfolding field_end
passed_spans b e =
    let f = passed_fields b e in
    let v = passed_sound (tag_of (grid_of b)) 36 49152 12 b (vertices_start b) f.vertices in
    record {
      name = (passed_sound 3 1 120 1 b name_start f.name).size;
      known_at = refl;
      row = v.size;
      second_at = omega arith;
      ends = v.ends;
    }

pub known_within : (b : List ℕ) → five_fields b ≡ Ok tt → (14 ≤ length b) × (known_start b ≤ 134)
known_within b e = let s = passed_spans b e in (omega arith, omega arith)

-- ---- and its sixth, if there is one

module _ (b : List ℕ) where
  pub five_passed : sheet_fields b ≡ Ok tt → five_fields b ≡ Ok tt
  unfolding sheet_fields
  five_passed e = (then_passed (five_fields b) (second_field b) e).0

  pub second_passed : sheet_fields b ≡ Ok tt → has_second_point b ≡ true → Field 6 (is_allowed 12 12 1) b (second_start b)
  unfolding sheet_fields second_field
  second_passed e has =
      passed_field 6 (is_allowed 12 12 1) b (second_start b)
      (rw has at (then_passed (five_fields b) (second_field b) e).1)

  pub second_body : sheet_fields b ≡ Ok tt → has_second_point b ≡ true → second_start b + 15 ≤ length b
  unfolding field_end
  second_body e has =
      let f = second_passed e has in
      let a = allowed_bounds 12 12 1 _ f.allowed in
      omega (arith, f.body)

  pub end_absent : has_second_point b ≡ false → sheet_end b ≡ second_start b
  end_absent e = rw e

  pub end_present : has_second_point b ≡ true → sheet_end b ≡ second_start b + 15
  end_present e = rw e

  pub end_within : sheet_fields b ≡ Ok tt → sheet_end b ≤ length b
  end_within e = go (has_second_point b) refl
    where
      go : (t : Bool) → has_second_point b ≡ t → sheet_end b ≤ length b
      go true has = omega (arith, end_present has, second_body e has)
      go false has = omega (arith, end_absent has, (passed_spans b (five_passed e)).ends)

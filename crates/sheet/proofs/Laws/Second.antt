-- The second point in a sheet's bytes, or none. Proved, in order, of one that was written: none_written, some_written,
-- second_field_written, second_written, end_second; of one that was read: size_kept, second_kept.
use mathlib.Core.Path.{◌≡◌, refl, sym, ap, ◌∙◌}
use mathlib.Core.Bool.{Bool, true, false, cond}
use mathlib.Core.List.{List, [], ◌++◌, append-nil}
use Prim.Native.Nat.{ℕ, ◌+◌}
use native.Mathlib.Omega.{arith}
use borrow.Author.Tests.{eq-eqb}
use lib.ListN.{length, drop}
use lib.Seq.{drop-length}
use Rattle.sphere.specs.declared.point.Point.{Point}
use Rattle.sphere.specs.Point.{Within, is_null}
use Rattle.sphere.proofs.Laws.Orientation.{null→origin}
use Rattle.big_endian.specs.Bytes.{numbers_of, point_bytes, AreBytes}
use Rattle.big_endian.proofs.Laws.Stores.{ints_bytes-length}
use Rattle.big_endian.proofs.Laws.Written.{first_written, point_written}
use Rattle.big_endian.proofs.Laws.Kept.{point_kept}
use Rattle.judging.proofs.Laws.From.{none_null}
use Rattle.fields.specs.Fields.{is_allowed, field_check, second_start, has_second_point, sheet_end, second_field, sheet_fields}
use Rattle.sheet.specs.Sheet.{second_of}
use Rattle.sheet.specs.Write.{field_bytes, second_bytes, second_size}
use Rattle.fields.proofs.Laws.Fields.{allowed_bounds, second_passed, second_body, end_absent, end_present}
use Rattle.sheet.proofs.Laws.Bodies.{tag_written, body_written, field_written, field_kept}
use Rattle.sheet.proofs.Laws.Reads.{second_absent, second_present}
use Rattle.std.specs.declared.result.Result.TheVariants.{Ok}

-- ---- a second point that was written, or none
module _ (second : Point) (b : List ℕ) (stands : drop (second_start b) b ≡ second_bytes second) where
  pub none_written : is_null second ≡ true → has_second_point b ≡ false
  unfolding has_second_point second_bytes
  none_written e = rw (first_written b {l = []} (second_start b) (stands ∙ rw e))

  module _ (some : is_null second ≡ false) where
    field-stands : drop (second_start b) b ≡ field_bytes 6 (point_bytes second) ++ []
    unfolding second_bytes
    field-stands = stands ∙ rw some (sym (append-nil (field_bytes 6 (point_bytes second))))

    pub some_written : has_second_point b ≡ true
    unfolding has_second_point
    some_written = eq-eqb _ 6 (tag_written b (second_start b) 6 (point_bytes second) [] field-stands)

    sixth-written : field_check 6 (is_allowed 12 12 1) b (second_start b) ≡ Ok tt
    unfolding is_allowed
    sixth-written =
        let n = ints_bytes-length (numbers_of second) in
        field_written b (second_start b) 6 (point_bytes second) [] field-stands (is_allowed 12 12 1)
        (omega arith) (ap (is_allowed 12 12 1) n)

    point-back : Within 2147483647 second → second_of b ≡ second
    point-back w =
        (second_present b some_written).0
        ∙ point_written b (second_start b + 3) second [] w
        (body_written b (second_start b) 6 (point_bytes second) [] field-stands)

  pub second_field_written : second_field b ≡ Ok tt
  unfolding second_field
  second_field_written = go (is_null second) refl
    where
      go : (none : Bool) → is_null second ≡ none →
          cond (has_second_point b) (field_check 6 (is_allowed 12 12 1) b (second_start b)) (Ok tt) ≡ Ok tt
      go true e = rw (none_written e)
      go false e = rw (some_written e) (sixth-written e)

  pub second_written : Within 2147483647 second → second_of b ≡ second
  second_written w = go (is_null second) refl
    where
      go : (none : Bool) → is_null second ≡ none → second_of b ≡ second
      go true e = (second_absent b (none_written e)).0 ∙ sym (null→origin second (rw e tt))
      go false e = point-back e w

  pub end_second : sheet_end b ≡ second_start b + second_size second
  unfolding second_size
  end_second = go (is_null second) refl
    where
      go : (none : Bool) → is_null second ≡ none → sheet_end b ≡ second_start b + cond none 0 15
      go true e = end_absent b (none_written e) ∙ omega arith
      go false e = end_present b (some_written e)

-- ---- a second point that was read, or none
module _ (b : List ℕ) (sound : sheet_fields b ≡ Ok tt) (ends : length b ≡ sheet_end b)
    (some : has_second_point b ≡ true → is_null (second_of b) ≡ false) where
  pub size_kept : second_start b + second_size (second_of b) ≡ length b
  unfolding second_size
  size_kept = go (has_second_point b) refl
    where
      go : (t : Bool) → has_second_point b ≡ t → second_start b + cond (is_null (second_of b)) 0 15 ≡ length b
      go true has = rw (some has) (omega (arith, ends, end_present b has))
      go false has = rw ((second_absent b has).0, none_null) (omega (arith, ends, end_absent b has))

  module _ (are : AreBytes b) where
    sixth-kept : has_second_point b ≡ true → drop (second_start b) b ≡ field_bytes 6 (point_bytes (second_of b))
    sixth-kept has =
        let f = second_passed b sound has in
        let a = allowed_bounds 12 12 1 _ f.allowed in
        let at = second_start b in
        let size = ints_bytes-length (numbers_of (second_of b)) in
        let e : at + 3 + 12 ≡ length b = omega (arith, ends, end_present b has) in
        let h = second_body b sound has in
        let body = point_kept b are (at + 3) (omega arith) in
        let here = rw (sym (second_present b has).0) at body in
        field_kept b are at 6 (point_bytes (second_of b)) [] f.head f.tagged (omega arith)
        (here ∙ ap (λ (l : List ℕ). point_bytes (second_of b) ++ l) (ap (λ (k : ℕ). drop k b) e ∙ drop-length b))
        ∙ append-nil (field_bytes 6 (point_bytes (second_of b)))

    pub second_kept : drop (second_start b) b ≡ second_bytes (second_of b)
    unfolding second_bytes
    second_kept = go (has_second_point b) refl
      where
        go : (t : Bool) → has_second_point b ≡ t →
            drop (second_start b) b ≡ cond (is_null (second_of b)) [] (field_bytes 6 (point_bytes (second_of b)))
        go true has = rw (some has) (sixth-kept has)
        go false has =
            let e : second_start b ≡ length b = sym (ends ∙ end_absent b has) in
            rw ((second_absent b has).0, none_null) (ap (λ (k : ℕ). drop k b) e ∙ drop-length b)

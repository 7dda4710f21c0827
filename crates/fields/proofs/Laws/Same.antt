-- The fields of a sheet say nothing of the bytes after it. Defined: Same (two lists that have their first n bytes in
-- common). Proved, in order: same_short, same_end, same_field, five_passed_back; same_known, same_grid, same_second,
-- same_charset, same_five; six_same, five_same, same_front; cut_out (a sheet cut out of the bytes that begin with it), put_before (a sheet
-- with bytes after it).
use mathlib.Core.Path.{◌≡◌, refl, sym, ap, ap₂, ◌∙◌}
use mathlib.Core.Bool.{Bool, true, false, not, cond}
use mathlib.Core.List.{List, ◌++◌}
use Prim.Native.Nat.{ℕ, ◌+◌, ◌≤◌, ◌<◌}
use native.Mathlib.Omega.{arith}
use borrow.Author.Tests.{le-ltb, ne_eqb, ltb-false}
use lib.Dec.{eqb}
use lib.ListN.{length, take, length-append, get_or-append, get_or-eq_default}
use lib.Seq.{length-take-le, get_or-take}
use Rattle.sphere.specs.declared.point.Grid.TheVariants.{Coarse, Fine}
use Rattle.big_endian.specs.Bytes.{byte_at, short_at}
use Rattle.std.specs.declared.result.Result.TheVariants.{Ok}
use Rattle.answer.specs.declared.Reason.TheVariants.{Charset, TrailingBytes}
use Rattle.answer.specs.Chain.{fails_here}
use Rattle.answer.proofs.Laws.Chain.{here_passed, then_passed}
use Rattle.fields.specs.Fields.{is_allowed, field_end, field_check, known_start, vertices_start, second_start, has_second_point}
use Rattle.fields.specs.Fields.{sheet_end, is_charset, charset_check, five_fields, second_field, sheet_fields, rest_check}
use Rattle.fields.specs.Fields.{grid_at, grid_of, tag_of, fields_check}
use Rattle.fields.proofs.Laws.Fields.{Field, field_passed, passed_field, allowed_bounds, charset_field, Fields}
use Rattle.fields.proofs.Laws.Fields.{passed_fields, passed_spans, five_passed, second_passed}
use Rattle.fields.proofs.Laws.Fields.{end_absent, end_present, end_within}

pub record Same (n : ℕ) (b c : List ℕ) : Type 0 where
  pub room : n ≤ length c
  pub byte : (i : ℕ) → i < n → byte_at c i ≡ byte_at b i

module _ {n : ℕ} {b c : List ℕ} (s : Same n b c) where
  same_short : (at : ℕ) → at + 1 < n → short_at c at ≡ short_at b at
  unfolding short_at
  same_short at h = rw (s.byte at (omega arith), s.byte (at + 1) h)

  same_end : (at : ℕ) → at + 2 < n → field_end c at ≡ field_end b at
  unfolding field_end
  same_end at h = ap (λ k. at + 3 + k) (same_short (at + 1) (omega arith))

  same_field : (tag : ℕ) (isLength : ℕ → Bool) (at : ℕ) → Field tag isLength b at → field_end b at ≤ n →
      Field tag isLength c at
  unfolding field_end
  same_field tag isLength at f h = record {
    head = omega (arith, s.room);
    tagged = s.byte at (omega arith) ∙ f.tagged;
    allowed = ap isLength (same_short (at + 1) (omega arith)) ∙ f.allowed;
    body = rw (same_short (at + 1) (omega arith)) (omega (arith, s.room));
  }

five_passed_back : (b : List ℕ) → Fields b → five_fields b ≡ Ok tt
unfolding five_fields
five_passed_back b f = rw (f.zone, f.charset, f.name, f.known, f.vertices)

-- ---- the five fields, and the sixth

module _ {n : ℕ} {b c : List ℕ} (s : Same n b c) (e : five_fields b ≡ Ok tt) (h : second_start b ≤ n) where
  same_known : known_start c ≡ known_start b
  same_known = let p = passed_spans b e in same_end s 11 (omega (arith, p.known_at, p.second_at, p.name.low))

  same_grid : grid_of c ≡ grid_of b
  unfolding grid_at
  same_grid =
      let p = passed_spans b e in
      ap (λ k. grid_at c (k + 15)) same_known
      ∙ ap (λ k. cond (eqb k 7) Fine Coarse) (s.byte (vertices_start b) (omega (arith, p.second_at)))

  same_second : second_start c ≡ second_start b
  same_second =
      let p = passed_spans b e in
      ap (λ k. field_end c (k + 15)) same_known
      ∙ same_end s (vertices_start b) (omega (arith, p.second_at, p.row.low))

  same_charset : charset_check c ≡ Ok tt
  unfolding charset_check field_end
  same_charset =
      let p = passed_spans b e in
      let f = (passed_fields b e).charset in
      let g = passed_field 2 (is_allowed 1 1 1) b 7 (charset_field b f) in
      let a = allowed_bounds 1 1 1 (short_at b 8) g.allowed in
      rw (field_passed 2 (is_allowed 1 1 1) c 7
      (same_field s 2 (is_allowed 1 1 1) 7 g (omega (arith, p.second_at, p.known_at, a.high))))
      (ap (λ k. fails_here Charset 7 (not (is_charset k))) (s.byte 10 (omega (arith, p.second_at, p.known_at)))
      ∙ (then_passed (field_check 2 (is_allowed 1 1 1) b 7) _ f).1)

  same_five : five_fields c ≡ Ok tt
  unfolding field_end
  same_five =
      let p = passed_spans b e in
      let f = passed_fields b e in
      let zone = passed_field 1 (is_allowed 4 4 1) b 0 f.zone in
      let z = allowed_bounds 4 4 1 (short_at b 1) zone.allowed in
      let name = passed_field 3 (is_allowed 1 120 1) b 11 f.name in
      let known = passed_field 4 (is_allowed 12 12 1) b (known_start b) f.known in
      let k = allowed_bounds 12 12 1 (short_at b (known_start b + 1)) known.allowed in
      let vertices = passed_field (tag_of (grid_of b)) (is_allowed 36 49152 12) b (vertices_start b) f.vertices in
      five_passed_back c record {
        zone =
            field_passed 1 (is_allowed 4 4 1) c 0
            (same_field s 1 (is_allowed 4 4 1) 0 zone (omega (arith, p.second_at, p.known_at, z.high)));
        charset = same_charset;
        name =
            field_passed 3 (is_allowed 1 120 1) c 11
            (same_field s 3 (is_allowed 1 120 1) 11 name (omega (arith, p.second_at, p.known_at)));
        known =
            ap (field_check 4 (is_allowed 12 12 1) c) same_known
            ∙ field_passed 4 (is_allowed 12 12 1) c (known_start b)
            (same_field s 4 (is_allowed 12 12 1) (known_start b) known (omega (arith, p.second_at, k.high)));
        vertices =
            ap₂ (λ grid at. field_check (tag_of grid) (is_allowed 36 49152 12) c (at + 15)) same_grid same_known
            ∙ field_passed (tag_of (grid_of b)) (is_allowed 36 49152 12) c (vertices_start b)
            (same_field s (tag_of (grid_of b)) (is_allowed 36 49152 12) (vertices_start b) vertices h);
      }

-- A sheet in front, and the same sheet in front of other bytes, which do not go on with a byte 6.
module _ {b c : List ℕ} (e : sheet_fields b ≡ Ok tt) (s : Same (sheet_end b) b c)
    (other : has_second_point b ≡ false → byte_at c (sheet_end b) ≡ 6 → ⊥) where
  six_same : has_second_point b ≡ true → (sheet_fields c ≡ Ok tt) × (sheet_end c ≡ sheet_end b)
  unfolding sheet_fields second_field has_second_point field_end
  six_same has =
      let five = five_passed b e in
      let ends = end_present b has in
      let at = same_second s five (omega arith) in
      let f = second_passed b e has in
      let a = allowed_bounds 12 12 1 _ f.allowed in
      let there : has_second_point c ≡ true =
      ap (λ k. eqb k 6) (ap (byte_at c) at ∙ s.byte (second_start b) (omega arith)) ∙ has in
      let g = field_passed 6 (is_allowed 12 12 1) c (second_start b)
      (same_field s 6 (is_allowed 12 12 1) (second_start b) f (omega (arith, a.high))) in (
        rw (same_five s five (omega arith), there) (ap (field_check 6 (is_allowed 12 12 1) c) at ∙ g),
        end_present c there ∙ ap (λ k. k + 15) at ∙ sym ends,
      )

  five_same : has_second_point b ≡ false → (sheet_fields c ≡ Ok tt) × (sheet_end c ≡ sheet_end b)
  unfolding sheet_fields second_field has_second_point
  five_same has =
      let five = five_passed b e in
      let ends = end_absent b has in
      let at = same_second s five (omega arith) in
      let missing : has_second_point c ≡ false =
      ne_eqb (byte_at c (second_start c)) 6 (λ z. other has (ap (byte_at c) (ends ∙ sym at) ∙ z)) in
      (rw (same_five s five (omega arith), missing), end_absent c missing ∙ at ∙ sym ends)

  pub same_front : (sheet_fields c ≡ Ok tt) × (sheet_end c ≡ sheet_end b)
  same_front = go (has_second_point b) refl
    where
      go : (t : Bool) → has_second_point b ≡ t → (sheet_fields c ≡ Ok tt) × (sheet_end c ≡ sheet_end b)
      go true has = six_same has
      go false has = five_same has

-- ---- a sheet by itself

pub cut_out : (b : List ℕ) → sheet_fields b ≡ Ok tt → fields_check (take (sheet_end b) b) ≡ Ok tt
unfolding fields_check rest_check
cut_out b e =
    let c = take (sheet_end b) b in
    let sized : length c ≡ sheet_end b = length-take-le (sheet_end b) b (end_within b e) in
    let s : Same (sheet_end b) b c = record { room = omega arith; byte = λ i h. get_or-take (sheet_end b) b i 0 h } in
    let past : byte_at c (sheet_end b) ≡ 0 = get_or-eq_default c 0 (omega arith) in
    let f = same_front e s (λ has z. let y : ◌≡◌ {A = ℕ} 0 6 = sym past ∙ z in omega arith) in
    rw (f.0, le-ltb (sheet_end c) (length c) (omega (arith, f.1)))

-- A sheet, and bytes after it that do not begin with 6.
pub put_before : (b more : List ℕ) → fields_check b ≡ Ok tt → (byte_at (b ++ more) (length b) ≡ 6 → ⊥) →
    (sheet_fields (b ++ more) ≡ Ok tt) × (sheet_end (b ++ more) ≡ length b)
unfolding fields_check rest_check
put_before b more e other =
    let one = then_passed (sheet_fields b) (rest_check b) e in
    let within = end_within b one.0 in
    let whole = ltb-false (sheet_end b) (length b) (here_passed TrailingBytes (sheet_end b) _ one.1) in
    let ends : sheet_end b ≡ length b = omega arith in
    let s : Same (sheet_end b) b (b ++ more) = record {
      room = omega (arith, length-append b more);
      byte = λ i h. get_or-append b more 0 i (omega arith);
    } in
    let f = same_front one.0 s (λ has z. other (ap (byte_at (b ++ more)) (sym ends) ∙ z)) in
    (f.0, f.1 ∙ ends)

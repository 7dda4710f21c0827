-- The sheet in front of some bytes, refused: 20 to 23, at a place among the bytes or just past them. Defined: Refuses.
-- Proved, in order: passed_refuses, failed_refuses, refuses_then, refuses_here, refuses_if, refuses_field,
-- refuses_charset, refuses_five, refuses_front.
use mathlib.Core.Path.{◌≡◌, refl, sym, subst}
use mathlib.Core.Bool.{Bool, true, false, not, cond}
use mathlib.Core.List.{List}
use Prim.Native.Nat.{ℕ, ◌+◌, ◌≤◌}
use native.Mathlib.Omega.{arith}
use lib.Dec.{eqb, ltb}
use lib.ListN.{length}
use Rattle.big_endian.specs.Bytes.{byte_at, short_at}
use Rattle.std.specs.declared.result.Result.TheVariants.{Ok, Err}
use Rattle.answer.specs.declared.Refusal.{Refusal}
use Rattle.answer.specs.declared.Reason.{Reason}
use Rattle.answer.specs.declared.Reason.TheVariants.{Charset, FieldCut, FieldLength, FieldTag}
use Rattle.answer.specs.Refusal.{Check, reason_number, fails}
use Rattle.answer.specs.Chain.{◌then◌, fails_here}
use Rattle.answer.proofs.Laws.Chain.{failed_not_passed}
use Rattle.fields.specs.Fields.{is_allowed, field_check, field_end, is_charset, charset_check, five_fields, second_field}
use Rattle.fields.specs.Fields.{grid_of, tag_of}
use Rattle.fields.specs.Fields.{zone_check, name_check, known_check}
use Rattle.fields.specs.Fields.{sheet_fields, known_start, vertices_start, second_start, has_second_point}
use Rattle.fields.proofs.Laws.Fields.{passed_sound, passed_spans, charset_field}

-- If the check fails, its number is 20 to 23 and its place at most `most`.
pub record Refuses (most : ℕ) (c : Check) : Type 0 where
  pub refusal : (refusal : Refusal) → c ≡ Err refusal →
      (20 ≤ reason_number refusal.reason) × (reason_number refusal.reason ≤ 23) × (refusal.place ≤ most)

passed_refuses : {most : ℕ} → Refuses most (Ok tt)
passed_refuses = record { refusal = λ r e. failed_not_passed (sym e) }

failed_refuses :
    {most : ℕ} {reason : Reason} {place : ℕ} → 20 ≤ reason_number reason → reason_number reason ≤ 23 → place ≤ most →
    Refuses most (fails reason place)
failed_refuses {most} {reason} {place} low high h = record {
  refusal = λ r e. subst (λ r. (20 ≤ reason_number r.reason) × (reason_number r.reason ≤ 23) × (r.place ≤ most)) (same e)
      (low, high, h);
}
  where
    same : {q r : Refusal} → ◌≡◌ {A = Check} (Err q) (Err r) → q ≡ r
    same e = cc

pub refuses_then : {most : ℕ} (c d : Check) → Refuses most c → (c ≡ Ok tt → Refuses most d) → Refuses most (c then d)
refuses_then (Ok unit) d h g = g refl
refuses_then (Err refusal) d h g = h

refuses_here :
    {most : ℕ} (reason : Reason) (place : ℕ) (bad : Bool) → 20 ≤ reason_number reason → reason_number reason ≤ 23 →
    place ≤ most → Refuses most (fails_here reason place bad)
refuses_here reason place true low high h = failed_refuses low high h
refuses_here reason place false low high h = passed_refuses

refuses_if : {most : ℕ} {c : Check} (t : Bool) → Refuses most c → Refuses most (cond t c (Ok tt))
refuses_if true h = h
refuses_if false h = passed_refuses

refuses_field :
    {most : ℕ} (tag : ℕ) (isLength : ℕ → Bool) (b : List ℕ) (at : ℕ) → at ≤ most →
    Refuses most (field_check tag isLength b at)
unfolding field_check
refuses_field tag isLength b at h =
    refuses_then _ _ (refuses_here FieldCut at (ltb (length b) (at + 3)) (omega arith) (omega arith) h)
    (λ _. refuses_then _ _ (refuses_here FieldTag at (not (eqb (byte_at b at) tag)) (omega arith) (omega arith) h)
    (λ _. refuses_then _ _ (refuses_here FieldLength at (not (isLength (short_at b (at + 1)))) (omega arith) (omega arith) h)
    (λ _. refuses_here FieldCut at (ltb (length b) (field_end b at)) (omega arith) (omega arith) h)))

refuses_charset : {most : ℕ} (b : List ℕ) → 7 ≤ most → Refuses most (charset_check b)
unfolding charset_check
refuses_charset b h =
    refuses_then _ _ (refuses_field 2 (is_allowed 1 1 1) b 7 h)
    (λ _. refuses_here Charset 7 (not (is_charset (byte_at b 10))) (omega arith) (omega arith) h)

-- Each field begins where one that passed ends.
refuses_five : (b : List ℕ) → Refuses (length b) (five_fields b)
unfolding five_fields field_end
refuses_five b =
    refuses_then (zone_check b) _ (refuses_field 1 (is_allowed 4 4 1) b 0 (omega arith))
    (λ z. let zone = passed_sound 1 4 4 1 b 0 z in
    refuses_then (charset_check b) _ (refuses_charset b (omega arith))
    (λ c. let charset = passed_sound 2 1 1 1 b 7 (charset_field b c) in
    refuses_then (name_check b) _ (refuses_field 3 (is_allowed 1 120 1) b 11 (omega arith))
    (λ n. let name = passed_sound 3 1 120 1 b 11 n in
    refuses_then (known_check b) _ (refuses_field 4 (is_allowed 12 12 1) b (known_start b) name.ends)
    (λ k. let known = passed_sound 4 12 12 1 b (known_start b) k in
    refuses_field (tag_of (grid_of b)) (is_allowed 36 49152 12) b (vertices_start b) (omega (arith, known.ends))))))

pub refuses_front : (b : List ℕ) → Refuses (length b) (sheet_fields b)
unfolding sheet_fields second_field
refuses_front b =
    refuses_then (five_fields b) _ (refuses_five b)
    (λ e. refuses_if (has_second_point b)
    (refuses_field 6 (is_allowed 12 12 1) b (second_start b) (passed_spans b e).ends))

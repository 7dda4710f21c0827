-- One field that was written, or read: a list b that goes on, from `at`, with the field's bytes.
-- Proved, in order: tag_written, length_written, body_written, rest_written, end_written, field_written (its check
-- passes); field_kept (a field that was read is written as it stood).
use mathlib.Core.Path.{◌≡◌, refl, sym, ap, ◌∙◌}
use mathlib.Core.Bool.{Bool, true}
use mathlib.Core.List.{List, ◌∷◌, ◌++◌, append_assoc}
use Prim.Native.Nat.{ℕ, suc, ◌+◌, ◌≤◌, ◌<◌}
use native.Mathlib.Numerals.{add-one}
use native.Mathlib.Omega.{arith}
use lib.ListN.{length, drop, length-append, length-drop}
use lib.Seq.{drop-cons, drop-drop, drop_at}
use Rattle.big_endian.specs.Bytes.{byte_at, short_at, short_bytes, AreBytes}
use Rattle.big_endian.proofs.Laws.Written.{first_written, short_written}
use Rattle.big_endian.proofs.Laws.Kept.{short_kept}
use Rattle.fields.specs.Fields.{field_end, field_check}
use Rattle.sheet.specs.Write.{field_bytes}
use Rattle.fields.proofs.Laws.Fields.{field_passed}
use Rattle.sheet.proofs.Laws.Stores.{field_bytes-length}
use Rattle.std.specs.declared.result.Result.TheVariants.{Ok}

-- A field that stands at `at`, with `rest` after it.
module _ (b : List ℕ) (at tag : ℕ) (body rest : List ℕ) (stands : drop at b ≡ field_bytes tag body ++ rest) where
  pub tag_written : byte_at b at ≡ tag
  unfolding field_bytes
  tag_written = first_written b at stands

  after_tag : drop (at + 1) b ≡ short_bytes (length body) ++ (body ++ rest)
  unfolding field_bytes
  after_tag = sym (drop-drop 1 at b) ∙ ap (drop 1) stands ∙ append_assoc (short_bytes (length body)) body rest

  pub length_written : length body < 65536 → short_at b (at + 1) ≡ length body
  length_written h = short_written b (at + 1) (length body) (body ++ rest) h after_tag

  pub body_written : drop (at + 3) b ≡ body ++ rest
  unfolding short_bytes
  body_written =
      let e : at + 1 + 2 ≡ at + 3 = omega arith in
      ap (λ (k : ℕ). drop k b) (sym e) ∙ sym (drop-drop 2 (at + 1) b) ∙ ap (drop 2) after_tag

  pub rest_written : (next : ℕ) → next ≡ at + 3 + length body → drop next b ≡ rest
  rest_written next e =
      ap (λ (k : ℕ). drop k b) e ∙ sym (drop-drop (length body) (at + 3) b)
      ∙ ap (drop (length body)) body_written ∙ drop_at body rest (length body) refl

  pub end_written : at + 3 + length body ≤ length b
  end_written =
      let n = ap length stands ∙ length-append (field_bytes tag body) rest in
      omega (arith, field_bytes-length tag body, length-drop at b)

  pub field_written :
      (isLength : ℕ → Bool) → length body < 65536 → isLength (length body) ≡ true →
      field_check tag isLength b at ≡ Ok tt
  unfolding field_end
  field_written isLength h ok =
      let n = length_written h in
      let e = end_written in
      field_passed tag isLength b at
      (record { head = omega arith; tagged = tag_written; allowed = ap isLength n ∙ ok; body = omega arith })

-- ---- a field that was read
module _ (b : List ℕ) (are : AreBytes b) where
  pub field_kept :
      (at tag : ℕ) (body rest : List ℕ) → at + 3 ≤ length b → byte_at b at ≡ tag → short_at b (at + 1) ≡ length body →
      drop (at + 3) b ≡ body ++ rest → drop at b ≡ field_bytes tag body ++ rest
  unfolding field_bytes
  field_kept at tag body rest h t n e =
      let k : at + 3 ≡ at + 1 + 2 = omega arith in
      let tail : drop (at + 1) b ≡ (short_bytes (length body) ++ body) ++ rest =
      short_kept b are (at + 1) (omega arith)
      ∙ ap (λ (m : ℕ). short_bytes m ++ drop (at + 1 + 2) b) n
      ∙ ap (λ (l : List ℕ). short_bytes (length body) ++ l) (ap (λ (m : ℕ). drop m b) (sym k) ∙ e)
      ∙ sym (append_assoc (short_bytes (length body)) body rest) in
      drop-cons b at 0 (omega arith)
      ∙ ap (λ (x : ℕ). x ∷ drop (suc at) b) t
      ∙ ap (λ (l : List ℕ). tag ∷ l) (ap (λ (m : ℕ). drop m b) (sym (add-one at)) ∙ tail)

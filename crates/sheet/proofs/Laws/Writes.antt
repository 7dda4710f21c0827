-- What writing answers and leaves, case by case. Proved, in order: passed_writable, input_sizes, input_storable (what
-- input that passes is known to be); write_refused, write_short (which refusal);
-- answered, refused_kept, passed_stored (how it ends).
use mathlib.Core.Path.{◌≡◌, refl, sym, ap, ◌∙◌}
use mathlib.Core.List.{List, [], ◌∷◌, ◌++◌}
use Prim.Native.Nat.{ℕ, ◌+◌, ◌≤◌, ◌<◌}
use native.Mathlib.Omega.{arith}
use borrow.Author.Tests.{ltb-false, lt-ltb, leb-true, not-false}
use lib.Dec.{leb}
use lib.IntN.{ℤ}
use lib.ListN.{length, drop}
use lib.Seq.{sets, sets-eq}
use Rattle.sphere.specs.declared.point.Grid.{Grid}
use Rattle.sphere.specs.declared.point.GridPoint.{GridPoint}
use Rattle.sphere.specs.Point.{limit_of}
use Rattle.std.specs.declared.result.Result.TheVariants.{Ok, Err}
use Rattle.answer.specs.declared.Refusal.{Refusal}
use Rattle.answer.specs.declared.Reason.TheVariants.{Charset, FieldLength, SheetRoom}
use Rattle.answer.specs.declared.Verdict.{Verdict}
use Rattle.answer.specs.Refusal.{Check, refused_at}
use Rattle.answer.specs.Answer.{answer_after}
use Rattle.answer.specs.Buffer.{buffer_after}
use Rattle.polygon.specs.Pair.{optional_check}
use Rattle.polygon.specs.Grids.{is_mixed, grid_check, grid_of_second}
use Rattle.answer.proofs.Laws.Chain.{here_passed, then_passed, both_true}
use Rattle.polygon.proofs.Laws.Checks.{accept_passed}
use Rattle.polygon.proofs.Laws.Pair.{optional_first}
use Rattle.fields.specs.Fields.{is_charset}
use Rattle.sheet.specs.Write.{sheet_bytes, bytes_needed, Storable, input_check, write_check, write_of, written_to}
use Rattle.fields.proofs.Laws.Fields.{allowed_bounds}
use Rattle.sheet.proofs.Laws.Accepted.{accepted_list, within_word, optional_small}
use Rattle.sheet.proofs.Laws.Written.{Writable}
use Rattle.sheet.proofs.Laws.Stores.{sheet_bytes-length}

module _ (charset : ℕ) (name : List ℕ) (known : GridPoint) (g : Grid) (vertices : List ℤ) (second : GridPoint) where
  pub passed_writable :
      (zone : ℕ) → zone < 4294967296 → input_check charset name known g vertices second ≡ Ok tt →
      Writable zone charset name known.point g vertices second.point
  unfolding input_check
  passed_writable zone small e =
      let one = then_passed _ _ e in
      let two = then_passed _ _ one.1 in
      let mixed = grid_check vertices (is_mixed g (known.grid ∷ grid_of_second g second ∷ [])) in
      let three = then_passed mixed (optional_check (limit_of g) vertices known.point second.point) two.1 in
      record {
        small = small;
        coded = not-false _ (here_passed Charset 0 _ one.0);
        named = not-false _ (here_passed FieldLength 0 _ two.0);
        paired = three.1;
      }

  module _ (ok : input_check charset name known g vertices second ≡ Ok tt) where
    pub input_sizes : (length name ≤ 120) × (length vertices ≤ 12288)
    input_sizes =
        let w = passed_writable 0 (omega arith) ok in
        let accepted = optional_first (limit_of g) vertices known.point second.point w.paired in
        let l = accepted_list (limit_of g) vertices known.point accepted in
        let n = allowed_bounds 1 120 1 (length name) w.named in
        (omega arith, omega arith)

    charset_small : charset < 256
    unfolding is_charset
    charset_small =
        let w = passed_writable 0 (omega arith) ok in
        let h = leb-true charset 3 (both_true (leb 1 charset) (leb charset 3) w.coded).1 in
        omega arith

    pub input_storable : (room : ℕ) → bytes_needed name vertices second.point ≤ room →
        Storable charset name known.point vertices second.point room
    input_storable room h =
        let w = passed_writable 0 (omega arith) ok in
        let accepted = optional_first (limit_of g) vertices known.point second.point w.paired in
        record {
          charset_small = charset_small;
          name_short = input_sizes.0;
          known_small = within_word g (accept_passed accepted).known;
          row_short = input_sizes.1;
          second_small = optional_small g vertices known.point second.point w.paired;
          enough = h;
        }

  -- ---- what it answers, and what it leaves in the buffer
  -- What an input is refused for is the answer, in any room.
  pub write_refused : {refusal : Refusal} (room : ℕ) → input_check charset name known g vertices second ≡ Err refusal →
      write_of charset name known g vertices second room ≡ Err refusal
  unfolding write_of write_check
  write_refused room e = rw e

  pub write_short :
      (room : ℕ) → input_check charset name known g vertices second ≡ Ok tt → room < bytes_needed name vertices second.point →
      write_of charset name known g vertices second room ≡ Err (refused_at SheetRoom (bytes_needed name vertices second.point))
  unfolding write_of write_check
  write_short room ok h = rw (ok, lt-ltb room (bytes_needed name vertices second.point) h)

  answer_passed : (c : Check) (done : Verdict) {verdict : Verdict} → answer_after c (Ok done) ≡ Ok verdict → c ≡ Ok tt
  answer_passed (Ok unit) done e = refl
  answer_passed (Err refusal) done e = absurd cc

  pub answered : {verdict : Verdict} (room : ℕ) → write_of charset name known g vertices second room ≡ Ok verdict →
      (write_check charset name known g vertices second room ≡ Ok tt)
      × (input_check charset name known g vertices second ≡ Ok tt)
      × (bytes_needed name vertices second.point ≤ room)
  unfolding write_of write_check
  answered room e =
      let n = bytes_needed name vertices second.point in
      let passed = answer_passed (write_check charset name known g vertices second room) _ e in
      let both = then_passed (input_check charset name known g vertices second) _ passed in
      (passed, both.0, ltb-false room n (here_passed SheetRoom n _ both.1))

  module _ (zone : ℕ) (buffer : List ℕ) where
    pub refused_kept :
        {refusal : Refusal} → write_of charset name known g vertices second (length buffer) ≡ Err refusal →
        written_to zone charset name known g vertices second buffer ≡ buffer
    unfolding write_of written_to
    refused_kept e = go (write_check charset name known g vertices second (length buffer)) _ _ e
      where
        go : (c : Check) (sheet : List ℕ) (done : Verdict) {refusal : Refusal} → answer_after c (Ok done) ≡ Err refusal →
            buffer_after c sheet buffer ≡ buffer
        go (Ok unit) sheet done e = absurd cc
        go (Err refusal) sheet done e = refl

    pub passed_stored :
        write_check charset name known g vertices second (length buffer) ≡ Ok tt →
        bytes_needed name vertices second.point ≤ length buffer →
        written_to zone charset name known g vertices second buffer
        ≡ sets buffer 0 (sheet_bytes zone charset name known.point g vertices second.point)
    unfolding written_to
    passed_stored e h =
        let sheet = sheet_bytes zone charset name known.point g vertices second.point in
        let n = sheet_bytes-length zone charset name known.point g vertices second.point in
        let z : 0 + length sheet ≡ length sheet = omega arith in
        let stored = sets-eq sheet buffer 0 (omega arith) ∙ ap (λ (k : ℕ). sheet ++ drop k buffer) z in
        rw e (sym stored)

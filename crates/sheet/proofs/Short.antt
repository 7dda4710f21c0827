-- A buffer that is too short for a sheet: 25, exactly. Proved, in order: input_other, short_after, short_buffer_exactly.
use mathlib.Core.Path.{◌≡◌, refl}
use mathlib.Core.Bool.{Bool, true, false, not}
use mathlib.Core.List.{List, [], ◌∷◌}
use Prim.Native.Nat.{ℕ, ◌<◌}
use native.Mathlib.Omega.{arith}
use borrow.Author.Tests.{ltb-true, lt-ltb}
use lib.Dec.{ltb}
use lib.IntN.{ℤ}
use lib.ListN.{length}
use Rattle.sphere.specs.declared.point.Grid.{Grid}
use Rattle.sphere.specs.declared.point.GridPoint.{GridPoint}
use Rattle.sphere.specs.Point.{limit_of}
use Rattle.std.specs.declared.result.Result.TheVariants.{Ok, Err}
use Rattle.answer.specs.declared.Reason.TheVariants.{Charset, FieldLength, OtherGrid, SheetRoom}
use Rattle.answer.specs.declared.Verdict.TheVariants.{Done}
use Rattle.answer.specs.Refusal.{Check}
use Rattle.answer.specs.Answer.{number_of, answer_after}
use Rattle.answer.specs.Chain.{◌then◌, fails_here}
use Rattle.answer.proofs.Laws.Chain.{failed_not_passed}
use Rattle.answer.proofs.Laws.Numbers.{Numbered, Other, ◌both◌, if_numbered}
use Rattle.polygon.specs.Grids.{is_mixed, grid_check, grid_of_second}
use Rattle.polygon.proofs.Laws.Numbers.{list_numbered, optional_numbered}
use Rattle.fields.specs.Fields.{is_charset, is_name_length}
use Rattle.sheet.specs.Write.{bytes_needed, input_check, write_check, write_of}
use Rattle.sheet.specs.Claims.{ShortBuffer, ShortBufferExactly}
use Rattle.sheet.proofs.Laws.Stores.{sheet_bytes-length}

-- No check before it has the number.
input_other : (charset : ℕ) (name : List ℕ) (known : GridPoint) (g : Grid) (vertices : List ℤ) (second : GridPoint) →
    Numbered (Other 25) (input_check charset name known g vertices second)
unfolding input_check grid_check
input_other charset name known g vertices second =
    let list = list_numbered (Other 25) (limit_of g) vertices (λ e. omega arith) in
    if_numbered Charset (not (is_charset charset)) (λ e. omega arith)
    both if_numbered FieldLength (not (is_name_length (length name))) (λ e. omega arith)
    both (list both if_numbered OtherGrid (is_mixed g (known.grid ∷ grid_of_second g second ∷ [])) (λ e. omega arith))
    both optional_numbered (Other 25) (limit_of g) vertices list (λ n l m e. omega (arith, m, e)) known.point
    (λ e. omega arith) second.point

short_after : (before : Check) (room n : ℕ) → Numbered (Other 25) before →
    ShortBuffer (answer_after (before then fails_here SheetRoom n (ltb room n)) (Ok (Done n))) before room n
short_after (Err refusal) room n other = record {
  refused→short = λ e. absurd (other.each refusal refl e);
  short→refused = λ e h. failed_not_passed e;
}
short_after (Ok unit) room n other = record {
  refused→short = λ e. go (ltb room n) refl e;
  short→refused = λ e h. rw (lt-ltb room n h);
}
  where
    go : (t : Bool) → ltb room n ≡ t → number_of (answer_after (fails_here SheetRoom n t) (Ok (Done n))) ≡ 25 →
        (◌≡◌ {A = Check} (Ok tt) (Ok tt)) × (room < n)
    go true t e = (refl, ltb-true room n t)
    go false t e = absurd (omega (arith, e))

pub short_buffer_exactly : ShortBufferExactly
unfolding write_of write_check
short_buffer_exactly zone charset name known g vertices second room =
    rw (sheet_bytes-length zone charset name known.point g vertices second.point)
    (short_after (input_check charset name known g vertices second) room (bytes_needed name vertices second.point)
    (input_other charset name known g vertices second))

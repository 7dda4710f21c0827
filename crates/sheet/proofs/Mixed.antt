-- Writing on mixed grids: 28, exactly after 23, 22 and 10. Proved: write_mixed_exactly.
use mathlib.Core.Bool.{not}
use mathlib.Core.List.{[], ◌∷◌}
use native.Mathlib.Omega.{arith}
use lib.Dec.{ltb}
use lib.ListN.{length}
use Rattle.sphere.specs.Point.{limit_of}
use Rattle.std.specs.declared.result.Result.TheVariants.{Ok}
use Rattle.answer.specs.declared.Reason.TheVariants.{Charset, FieldLength, OtherGrid, SheetRoom}
use Rattle.answer.specs.declared.Verdict.TheVariants.{Done}
use Rattle.answer.specs.Answer.{answer_after}
use Rattle.answer.specs.Chain.{◌then◌, fails_here, fails_if}
use Rattle.polygon.specs.Checks.{list_check}
use Rattle.polygon.specs.Pair.{optional_check}
use Rattle.polygon.specs.Grids.{is_mixed, grid_check, grid_of_second}
use Rattle.answer.proofs.Laws.Chain.{then_assoc, after_then}
use Rattle.answer.proofs.Laws.Numbers.{Numbered, after_numbered, Other, ◌both◌, here_numbered, if_numbered}
use Rattle.polygon.proofs.Laws.Numbers.{optional_numbered}
use Rattle.polygon.proofs.Laws.Mixed.{mixed_after, list_other}
use Rattle.fields.specs.Fields.{is_charset, is_name_length}
use Rattle.sheet.specs.Write.{bytes_needed, input_check, write_check, write_of}
use Rattle.sheet.specs.Claims.{WriteMixedExactly}

pub write_mixed_exactly : WriteMixedExactly
unfolding write_of write_check input_check grid_check
write_mixed_exactly charset name known g vertices second room =
    let coded = fails_if Charset (not (is_charset charset)) in
    let named = fails_if FieldLength (not (is_name_length (length name))) in
    let list = list_check vertices in
    let mixed = fails_if OtherGrid (is_mixed g (known.grid ∷ grid_of_second g second ∷ [])) in
    let points = optional_check (limit_of g) vertices known.point second.point in
    let n = bytes_needed name vertices second.point in
    let fits = fails_here SheetRoom n (ltb room n) in
    let before : Numbered (Other 28) (coded then named then list) =
    if_numbered Charset (not (is_charset charset)) (λ e. omega arith)
    both if_numbered FieldLength (not (is_name_length (length name))) (λ e. omega arith)
    both list_other vertices in
    let accepted = optional_numbered (Other 28) (limit_of g) vertices (list_other vertices)
    (λ n l m e. omega (arith, m, e)) known.point (λ e. omega arith) second.point in
    rw (
      after_then (coded then named then (list then mixed) then points) fits (Ok (Done n)),
      then_assoc named (list then mixed) points,
      then_assoc named list mixed,
      then_assoc coded ((named then list) then mixed) points,
      then_assoc coded (named then list) mixed,
      after_then ((coded then named then list) then mixed) points _,
    )
    (mixed_after (coded then named then list) _ _ before
    (after_numbered points (answer_after fits (Ok (Done n))) accepted
    (after_numbered {Is = Other 28} fits (Ok (Done n)) (here_numbered SheetRoom n (ltb room n) (λ e. omega arith))
    (λ e. omega arith))))

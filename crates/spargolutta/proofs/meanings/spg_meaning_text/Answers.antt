-- `meanings::spg_meaning_text` meets its contract.
use mathlib.Core.Path.{◌≡◌, ap, ◌∙◌}
use mathlib.Core.List.{List}
use Prim.Native.Nat.{ℕ, ◌+◌, ◌-◌, ◌≤◌}
use native.Mathlib.Omega.{arith}
use lib.ListN.{length, take, drop}
use Rattle.spargolutta.specs.Meanings.{front_of, text_of, text_to}
use Rattle.spargolutta.proofs.Texts.{text_part, text_within, letters_length}
use Rattle.spargolutta.proofs.meanings.spg_meaning_text.Goals as goal

pub overflow_add-end : goal.overflow_add-end
overflow_add-end c =
    let n = c.args.number in
    let start = c.text_start-start.ensures in
    record { fits = omega (arith, c.text_size.ensures, start, text_within n, letters_length) }

pub slice_bounds-put_front-end : goal.slice_bounds-put_front-end
slice_bounds-put_front-end c =
    let n = c.args.number in
    let h : c.text_start-start.result + c.text_size.result ≤ length c.letters-all.result =
    omega (
      arith,
      c.text_start-start.ensures,
      c.text_size.ensures,
      ap length c.letters-all.ensures,
      text_within n,
    ) in
    h

pub returns : goal.returns
unfolding text_to
returns c =
    let i = c.args in
    let at = c.text_start-start.result in
    let n = length (text_of i.number) in
    let whole : at + c.text_size.result - at ≡ n = omega (arith, c.text_size.ensures) in
    let first = c.text_start-start.ensures in
    let row = (λ j. take (whole j) (drop (first j) (c.letters-all.ensures j))) ∙ text_part i.number in record {
      value = c.put_front.ensures.value ∙ ap length row;
      text_after = c.put_front.ensures.text_after ∙ ap (λ (l : List ℕ). front_of l i.text.now) row;
    }

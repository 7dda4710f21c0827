-- `meanings::put_front` meets its contract.
use mathlib.Core.Path.{refl, sym, ◌∙◌}
use native.Mathlib.Omega.{arith}
use borrow.Author.Rules.{rules}
use lib.ListN.{length}
use lib.Seq.{length-take-le}
use Rattle.spargolutta.proofs.Texts.{front_cut, front_whole}
use Rattle.spargolutta.proofs.meanings.put_front.Goals as goal

pub slice_bounds-put_bytes-end : goal.slice_bounds-put_bytes-end
slice_bounds-put_bytes-end c = sym (length-take-le _ _ (search rules))

pub put_bytes-requires : goal.put_bytes-requires
put_bytes-requires c =
    let i = c.args in
    let h = c.if-n-row.true in
    omega (arith, length-take-le (length i.text.now) i.row.now (omega arith))

pub returns-then-n-row : goal.returns-then-n-row
returns-then-n-row c =
    let i = c.args in
    let h = c.if-n-row.true in
    record {
      value = refl;
      text_after = c.put_bytes.ensures ∙ front_cut i.text.now i.row.now (omega arith);
    }

pub returns : goal.returns
returns c =
    let i = c.args in
    let h = c.if-n-row.false in
    record {
      value = refl;
      text_after = c.put_bytes-2.ensures ∙ front_whole i.text.now i.row.now (omega arith);
    }

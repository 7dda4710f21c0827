-- `read::decode_eights` meets its contract: the numbers of the turns before j are decoded.
use mathlib.Core.Path.{◌≡◌, refl, sym, ap, ◌∙◌}
use mathlib.Core.List.{List, ◌++◌}
use Prim.Native.Nat.{ℕ, ◌+◌, ◌*◌, ◌≤◌}
use native.Mathlib.Omega.{arith}
use lib.IntN.{ℤ}
use lib.ListN.{length, drop}
use lib.Seq.{sets, length-sets}
use Rattle.big_endian.specs.Bytes.{ints_at}
use Rattle.big_endian.proofs.Laws.Rows.{filled_none, filled_row}
use Rattle.big_endian.proofs.read.decode_eights.Goals as goal

pub loop-j-init : goal.loop-j-init
loop-j-init c = (omega arith, refl, filled_none _ _ _)

pub loop-j-preserved : goal.loop-j-preserved
loop-j-preserved c =
    let two = c.before.before.decode_four-in-loop-j.ensures in
    let d = c.before.before.before.before.before in
    let one = d.decode_four.ensures in
    let t = d.before.before in
    let inv = t.before.loop-j.invariant in
    let s = t.before.before.before in
    let b = s.args.b.now in
    let at = s.args.at in
    let l = s.args.out.now in
    let j = t.before.loop-j.j in
    let e : j * 8 + 4 + 4 ≡ (j + 1) * 8 = omega arith in
    let fits : j * 8 + 8 ≤ length l = omega (arith, t.loop-j-test.true, s.requires.1) in
    let first = one ∙ ap (λ (x : List ℤ). sets x (j * 8) (ints_at b (at + j * 8 * 4) 4)) inv.2
    ∙ filled_row b at l 4 (j * 8) (omega arith) in
    let second = two ∙ ap (λ (x : List ℤ). sets x (j * 8 + 4) (ints_at b (at + (j * 8 + 4) * 4) 4)) first in
    let same = sym (ap length first) ∙ ap length one
    ∙ length-sets t.before.loop-j.out (j * 8) (ints_at b (at + j * 8 * 4) 4) ∙ inv.1 in (
      omega (arith, t.loop-j-test.true),
      ap length second
          ∙ length-sets (ints_at b at (j * 8 + 4) ++ drop (j * 8 + 4) l) (j * 8 + 4) (ints_at b (at + (j * 8 + 4) * 4) 4)
          ∙ same,
      second ∙ filled_row b at l 4 (j * 8 + 4) (omega arith) ∙ ap (λ (k : ℕ). ints_at b at k ++ drop k l) e,
    )

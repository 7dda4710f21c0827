-- `put_mark` meets its contract.
use mathlib.Core.Path.{refl}
use native.Mathlib.Omega.{arith}
use lib.ListN.{length-set}
use lib.Seq.{get_or-set_same, get_or-set_other}
use Rattle.corridors.proofs.border.put_mark.Goals as goal

pub returns-then-i-marks : goal.returns-then-i-marks
returns-then-i-marks c =
    let s = c.before in
    let marks = s.args.marks.now in
    record {
      room = length-set marks s.args.i 1;
      own = λ h. get_or-set_same marks s.args.i 1 0 h;
      other = λ j h. get_or-set_other marks s.args.i j 1 0 h;
    }

pub returns-else-i-marks : goal.returns-else-i-marks
returns-else-i-marks c = record { room = refl; own = λ h. absurd (omega (arith, h, c.if-i-marks.false)); other = λ j h. refl }

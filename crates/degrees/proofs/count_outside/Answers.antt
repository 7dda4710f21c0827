-- `count_outside` meets its contract: before position i the first i are counted.
use mathlib.Core.Path.{◌≡◌, refl, ap₂, ◌∙◌}
use Prim.Native.Nat.{◌+◌, ◌/◌, ◌<◌}
use native.Mathlib.Omega.{arith}
use borrow.Author.Rules.{rules}
use lib.ListN.{length}
use Rattle.degrees.specs.Points.{position_count, outside_in}
use Rattle.degrees.proofs.Laws.{outside_le, outside_more}
use Rattle.degrees.proofs.count_outside.Goals as goal
use Rattle.degrees.proofs.count_outside.Lts as lts
use Rattle.degrees.proofs.count_outside.Reads as reads
use Rattle.degrees.proofs.count_outside.Tie as tie

abbrev At-loop-i : Type 0
At-loop-i = lts.At-loop tie.the-claims reads.Pre reads.Post goal.the-invariant-loop-i goal.the-decreases-loop-i

pub loop-i-init : goal.loop-i-init
unfolding outside_in
loop-i-init c = (omega arith, refl)

-- So few positions that their count has a successor.
short : (l : At-loop-i) → length l.before.before.args.degrees.now / 8 < 9223372036854775808
short l = search rules

pub overflow_add-outside : goal.overflow_add-outside
overflow_add-outside c =
    let l = c.before.before.before in
    record {
      fits = omega (
        arith,
        l.loop-i.invariant.0,
        l.loop-i.invariant.1,
        outside_le l.before.before.args.degrees.now l.loop-i.i,
        c.outside_at-outside.ensures.1,
        short l,
      );
    }

pub loop-i-preserved : goal.loop-i-preserved
loop-i-preserved c =
    let l = c.before.before.before in (
      omega arith,
      ap₂ ◌+◌ l.loop-i.invariant.1 c.outside_at-outside.ensures.0
          ∙ outside_more l.before.before.args.degrees.now l.loop-i.i,
    )

-- `skip_fine` meets its contract: the vertices passed have the side's sign.
use mathlib.Core.Path.{◌≡◌, sym, ◌∙◌}
use mathlib.Core.Bool.{true, false}
use mir.Syntax.{w64}
use Rattle.integers.specs.Sign.{negative, positive, sign_of}
use Rattle.integers.proofs.Compare.{is_positive_lem, is_negative_lem, positive_test, negative_test}
use Rattle.search.proofs.Laws.Scanned.{scan_start, strict_sided, sided_strict}
use Rattle.search.proofs.scan.skip_fine.Goals as goal
use Rattle.search.proofs.scan.skip_fine.Goals.{Then-side-gt0, Then-side-lt0}

-- The side's sign on each way.
above : (c : Then-side-gt0) → sign_of c.args.side ≡ positive
above c =
    is_positive_lem (sign_of c.args.side) (sym (positive_test w64 _ c.ranges.side) ∙ c.if-side-gt0.true)

below : (c : Then-side-lt0) → sign_of c.args.side ≡ negative
below c =
    is_negative_lem (sign_of c.args.side) (sym (negative_test w64 _ c.ranges.side) ∙ c.if-side-lt0.true)

pub past_sure-requires : goal.past_sure-requires
past_sure-requires c =
    record {
      listed = c.requires.listed;
      i_bound = (c.requires.i_bound.0, c.requires.i_bound.1, strict_sided true (above c) c.requires.i_bound.2);
    }

pub returns-then-side-gt0 : goal.returns-then-side-gt0
returns-then-side-gt0 c =
    let r = c.past_sure.ensures in (r.0, sided_strict true (above c.before) r.1)

pub past_sure-requires-then-side-lt0 : goal.past_sure-requires-then-side-lt0
past_sure-requires-then-side-lt0 c =
    record {
      listed = c.requires.listed;
      i_bound = (c.requires.i_bound.0, c.requires.i_bound.1, strict_sided false (below c) c.requires.i_bound.2);
    }

pub returns-then-side-lt0 : goal.returns-then-side-lt0
returns-then-side-lt0 c =
    let r = c.past_sure-then-side-lt0.ensures in (r.0, sided_strict false (below c.before) r.1)

pub returns : goal.returns
returns c = (scan_start, c.requires.i_bound.2)

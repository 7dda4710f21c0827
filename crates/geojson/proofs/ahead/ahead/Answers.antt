-- `ahead::ahead` meets its contract.
use mathlib.Core.Path.{refl, sym, ◌∙◌}
use native.Mathlib.Omega.{arith}
use Rattle.positions.specs.Number.{onward}
use Rattle.positions.proofs.Runs.{run_none, run_ring, run_read}
use Rattle.geojson.proofs.ahead.ahead.Goals as goal

pub returns-then-is_point : goal.returns-then-is_point
returns-then-is_point c =
    let l = c.args.text.now in
    let d = c.decimals-count in
    let k = d.result.count in
    let point = sym c.is_point.ensures ∙ c.if-is_point.true in
    record {
      k = k;
      run = d.ensures.digit_run;
      at = refl;
      pending = d.ensures.pending_value;
      low = c.requires.1;
      ring = run_ring l c.args.s c.args.i c.requires.1 point k d.ensures.digit_run;
      reads = run_read l c.args.s c.args.i c.requires.1 point k d.ensures.digit_run;
    }

pub returns : goal.returns
unfolding onward
returns c =
    record {
      k = 0;
      run = run_none _ _ c.requires.0;
      at = omega arith;
      pending = refl;
      low = c.requires.1;
      ring = c.requires.2;
      reads = refl;
    }

-- `skip` meets its contract, grid by grid.
use mathlib.Core.Path.{subst}
use Rattle.sphere.specs.Point.{limit_of}
use Rattle.polygon.specs.Accepted.{Gridded}
use Rattle.search.proofs.Laws.Scanned.{scan_start, sided_held, sided_back}
use Rattle.search.proofs.scan.skip.Goals as goal

pub skip_fine-requires : goal.skip_fine-requires
skip_fine-requires c =
    let g = c.in-Fine.is in record {
      listed = (c.requires.listed.0, subst (λ h. Gridded (limit_of h) c.args.vertices.now) g c.requires.listed.1, c.requires.listed.2, g);
      i_bound = (c.requires.i_bound.0, c.requires.i_bound.1, sided_held c.ranges.side c.requires.i_bound.2);
    }

pub returns-in-Coarse : goal.returns-in-Coarse
returns-in-Coarse c = (scan_start, c.requires.i_bound.2)

pub returns-in-Fine : goal.returns-in-Fine
returns-in-Fine c =
    let r = c.skip_fine.ensures in (r.0, sided_back c.ranges.side r.1)

-- `near_from` meets its contract: a scan up to the last edge that does not go back to vertex 0.
use Prim.Native.Nat.{◌<◌}
use native.Mathlib.Omega.{arith}
use Rattle.polygon.specs.Vertices.{vertices_count}
use Rattle.search.proofs.Laws.Arc.{reference}
use Rattle.search.proofs.Laws.Near.{Inner, inner, near_from}
use Rattle.search.proofs.Laws.Scanned.{sided_held}
use Rattle.search.proofs.scan.near_from.Goals as goal
use Rattle.search.proofs.scan.near_from.Goals.{Start}
use Rattle.search.proofs.scan.near_from.Lts as lts
use Rattle.search.proofs.scan.near_from.Reads as reads
use Rattle.search.proofs.scan.near_from.Tie as tie

abbrev After-last_inner-last : Type 0
After-last_inner-last = lts.After-last_inner tie.the-claims reads.Pre reads.Post tie.handed_clauses

some : (s : Start) → 0 < vertices_count s.args.vertices.now
some s = omega (arith, (reference s.requires.accepted_arc.0).accepted.listed.least)

pub last_inner-last-requires : goal.last_inner-last-requires
last_inner-last-requires c = some c

-- The edges that do not go back to vertex 0.
last : (c : After-last_inner-last) →
    Inner (vertices_count c.args.vertices.now) c.args.to c.last_inner-last.result
last c =
    rw c.last_inner-last.ensures (inner (vertices_count c.args.vertices.now) c.args.to (some c.before) c.requires.i_le_to.1)

pub next_near-requires : goal.next_near-requires
next_near-requires c =
    let a = (reference c.requires.accepted_arc.0).accepted in record {
      listed = (a.listed, a.gridded, c.requires.accepted_arc.0.sound.sound);
      i_bound = (omega (arith, c.requires.i_le_to.0, c.requires.i_le_to.1), (last c.before).below);
      sided = (sided_held c.ranges.side c.requires.accepted_arc.2, sided_held c.ranges.closing c.requires.accepted_arc.1);
    }

pub returns : goal.returns
returns c =
    let r = c.next_near.ensures in
    near_from _ c.requires.accepted_arc.0.sound _ (last c.before.before) c.requires.i_le_to.0 c.requires.i_le_to.1 r.0 r.1 r.2

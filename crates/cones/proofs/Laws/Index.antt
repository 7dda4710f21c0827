-- The index. Proved, in order: none_indexed (no nodes), none_on (no index); row_complete (the list of a node is
-- complete for each azimuth in its cone).
use mathlib.Core.List.{List}
use Prim.Native.Nat.{ℕ, ◌≤◌}
use native.Mathlib.Omega.{arith}
use lib.IntN.{ℤ}
use Rattle.sphere.specs.declared.point.Point.{Point}
use Rattle.azimuths.specs.Sectors.{MissedIn}
use Rattle.cones.specs.declared.table.Row.{Row}
use Rattle.cones.specs.Cones.{Complete}
use Rattle.cones.specs.Table.{RowOf, Node, Indexed, IndexOn, no_index}
use Rattle.cones.proofs.Laws.Covers.{covers_map}

pub none_indexed : (n : ℕ) (sectors table list : List ℕ) → Indexed n sectors table list 0 0
none_indexed n sectors table list = record {
  table_room = omega arith;
  list_room = omega arith;
  ends = λ k h. absurd (omega arith);
  each = λ k h. absurd (omega arith);
}

pub none_on : (vs : List ℤ) (X : Point) (sectors table list : List ℕ) → IndexOn vs X sectors table list no_index
none_on vs X sectors table list = record { built = λ h. absurd (omega arith) }

pub row_complete : {n : ℕ} {sectors table list : List ℕ} {k : ℕ} {row : Row} {at : ℕ} → RowOf table k row →
    Node n sectors table list k → row.lo ≤ at → at ≤ row.last →
    Complete (MissedIn sectors at at) n list row.from row.to
row_complete e node after before =
    let c = node.complete in
    rw (e.from, e.to) (record {
      some = c.some;
      within = c.within;
      covers =
          covers_map (λ j m x p q. m x (omega (arith, after, e.lo, p)) (omega (arith, before, e.last, q)))
          c.covers;
    })

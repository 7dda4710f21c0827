-- `first_list` meets its contract: each edge before i is on the list, or spans no azimuth of the range.
use mathlib.Core.Path.{refl, sym, ◌∙◌}
use mathlib.Core.List.{List}
use Prim.Native.Nat.{ℕ, ◌+◌, ◌<◌}
use native.Mathlib.Numerals.{add-one}
use native.Mathlib.Omega.{arith}
use lib.ListN.{length, set, length-set}
use lib.Seq.{get_or-set_same, get_or-set_other}
use Rattle.azimuths.proofs.Laws.Ranges.{missed_range}
use Rattle.cones.specs.Cones.{Covers, none, pass, keep}
use Rattle.cones.proofs.Laws.Covers.{covers_same}
use Rattle.cones.proofs.lists.first_list.Invariants.{Listing}
use Rattle.cones.proofs.lists.first_list.Goals as goal
use Rattle.cones.proofs.lists.first_list.Goals.{then-not-is_missed, else-not-is_missed}

-- The edge at hand, written behind what is listed: it stays, or it is missed.
module _ {missed : ℕ → Type 0} {n : ℕ} {l₀ l : List ℕ} {end i : ℕ} (s : Listing missed n l₀ l end i) (h : i < n)
    (r : end < length l) where
  still : Covers missed (set l end i) 0 i end
  still = covers_same (λ x p q. get_or-set_other l end x i 0 (λ z. omega arith)) s.all

  passed : missed i → Listing missed n l₀ (set l end i) end (i + 1)
  passed p = record {
    room = length-set l end i ∙ s.room;
    few = omega (arith, s.few);
    within = omega arith;
    all = rw (add-one i) (pass still p);
  }

  taken : Listing missed n l₀ (set l end i) (end + 1) (i + 1)
  taken = record {
    room = length-set l end i ∙ s.room;
    few = omega (arith, s.few);
    within = omega arith;
    all = rw (add-one i, add-one end) (keep still (get_or-set_same l end i 0 r));
  }

pub loop-i-init : goal.loop-i-init
loop-i-init c = record { room = refl; few = omega arith; within = omega arith; all = none }

pub loop-i-preserved : goal.loop-i-preserved
loop-i-preserved c =
    let v = c.args in
    let inv = c.loop-i.invariant in
    let h = c.loop-i-test.true in
    let r : c.loop-i.end < length c.loop-i.list = omega (arith, h, inv.room, inv.few) in
    elim c.if-not-is_missed.branch [
      | then-not-is_missed w ↦ rw w.end-is (taken inv h r)
      | else-not-is_missed w ↦ rw w.end-is (passed inv h r (missed_range v.sectors.now v.lo v.last _ (omega arith)
          (sym c.is_missed.ensures ∙ w.if-not-is_missed.false)))
    ]

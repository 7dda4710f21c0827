-- Ranges of azimuths. Proved: missed_range (what the test of a range says of each azimuth in it).
use mathlib.Core.Path.{◌≡◌}
use mathlib.Core.Bool.{true}
use mathlib.Core.List.{List}
use Prim.Native.Nat.{ℕ, ◌+◌, ◌*◌, ◌-◌, ◌≤◌, ◌<◌}
use native.Mathlib.Omega.{arith}
use borrow.Author.Tests.{ltb-true, lt-ltb}
use lib.Dec.{ltb}
use lib.ListN.{get_or}
use Rattle.answer.proofs.Laws.Chain.{both_true}
use Rattle.azimuths.specs.Azimuth.{gap_of}
use Rattle.azimuths.specs.Sectors.{is_missed, MissedIn}

-- Neither begins in the other: no azimuth is in both.
apart : (start width lo last k : ℕ) → last - lo < gap_of start lo → width < gap_of lo start → lo ≤ k → k ≤ last →
    last < 65536 → width < gap_of k start
apart start width lo last k p q a b small = omega arith

pub missed_range : (sectors : List ℕ) (lo last j : ℕ) → last < 65536 → is_missed sectors lo last j ≡ true →
    MissedIn sectors lo last j
missed_range sectors lo last j small e k a b =
    let start = get_or sectors (j * 2) 0 in
    let width = get_or sectors (j * 2 + 1) 0 in
    let h = both_true (ltb (last - lo) (gap_of start lo)) (ltb width (gap_of lo start)) e in
    lt-ltb width (gap_of k start)
    (apart start width lo last k (ltb-true _ _ h.0) (ltb-true _ _ h.1) a b small)

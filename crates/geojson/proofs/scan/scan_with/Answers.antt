-- `scan_with` meets its contract: the loop keeps what one byte more has.
use native.Mathlib.Omega.{arith}
use Rattle.geojson.proofs.Loop.{kept_start, kept_dead, next_alive, next_small, kept_next}
use Rattle.geojson.proofs.scan.scan_with.Goals as goal

pub loop-i-init : goal.loop-i-init
loop-i-init c = kept_start _ _ _ c.told-out c.fresh.ensures c.none.ensures

pub returns-then-s-eq76-clause-value : goal.returns-then-s-eq76-clause-value
returns-then-s-eq76-clause-value c =
    rw c.at.ensures (kept_dead c.loop-i.invariant c.loop-i-test.true c.next-s.ensures c.if-s-eq76.true)

pub ahead-at-requires : goal.ahead-at-requires
ahead-at-requires c =
    let v = c.loop-i.invariant in
    let h = c.loop-i-test.true in
    let on = next_alive v h c.next-s.ensures c.if-s-eq76.false in
    (omega arith, on.0, on.1, next_small v c.step-r.ensures.value)

pub loop-i-preserved : goal.loop-i-preserved
loop-i-preserved c =
    kept_next c.loop-i.invariant c.loop-i-test.true c.next-s.ensures c.if-s-eq76.false c.step-r.ensures.value
    c.step-r.ensures.out_after c.ahead-at.ensures

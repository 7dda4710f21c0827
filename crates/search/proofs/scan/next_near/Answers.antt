-- `next_near` meets its contract: no edge from i on, before the one at hand, is near.
use Rattle.std.proofs.Common.{◌≡◌, ◌+◌, sym, ◌∙◌, ap, arith, Bool, not, max}
use borrow.Author.Tests.{lt-ltb, le-ltb}
use mir.Syntax.{w64}
use mir.Val.{to_z, of_z}
use Rattle.integers.specs.Sign.{sign_of}
use Rattle.integers.proofs.Compare.{result_sign}
use Rattle.polygon.specs.Vertices.{next_of}
use Rattle.search.specs.Scan.{side_of, is_near}
use Rattle.search.proofs.Laws.Scanned.{scan_step, scan_hit, scan_end, sided_held}
use Rattle.search.proofs.scan.next_near.Goals as goal
use Rattle.search.proofs.scan.next_near.Goals.{After-is_beside}

-- What the test says of the edge at hand: its two sides, as the locals hold them.
module _ (c : After-is_beside) where
  first : sign_of (to_z w64 c.loop-edge.s1-bits)
      ≡ sign_of (side_of c.args.vertices.now c.args.plane.normal c.loop-edge.edge)
  first = c.loop-edge.invariant.side.known (omega (arith, c.loop-edge-test.true, c.requires.i_bound.1))

  second : sign_of (to_z w64 (of_z w64 c.side_of-s2.result))
      ≡ sign_of (side_of c.args.vertices.now c.args.plane.normal (c.loop-edge.edge + 1))
  second =
      let d = c.side_of-s2 in
      result_sign w64 d.result d.type_inv (rw c.vertex_at.ensures at d.ensures)

  near : {t : Bool} → not c.is_beside.result ≡ t →
      is_near c.args.vertices.now c.args.plane.normal c.loop-edge.edge ≡ t
  near e = rw (← first, ← second, ← c.is_beside.ensures) e

pub returns-then-not-is_beside : goal.returns-then-not-is_beside
unfolding next_of
returns-then-not-is_beside c =
    let inv = c.loop-edge.invariant in
    let more = c.loop-edge-test.true in
    let inner = lt-ltb (c.loop-edge.edge + 1) (c.args.last + 1) (omega (arith, more)) in (
      scan_hit inv.scan more (near c.before (ap not c.if-not-is_beside.true)),
      inv.side,
      record { known = λ h. second c.before ∙ rw inner },
    )

pub loop-edge-preserved : goal.loop-edge-preserved
loop-edge-preserved c =
    record {
      scan = scan_step c.loop-edge.invariant.scan c.loop-edge-test.true (near c.before (ap not c.if-not-is_beside.false));
      side = record { known = λ h. second c.before };
    }

pub returns : goal.returns
unfolding next_of
returns c =
    let l = c.loop-edge in
    let inv = l.invariant in
    let skipped = c.skip-first.ensures.0 in
    let last : l.edge ≡ max c.skip-first.result c.args.last =
    omega (
      arith,
      l.auto.edge,
      l.auto.edge-end,
      c.loop-edge-test.false,
      inv.scan.before,
      inv.scan.after,
      skipped.before,
      skipped.after,
    ) in
    let end = le-ltb (l.edge + 1) (c.args.last + 1) (omega (arith, c.loop-edge-test.false)) in
    rw (c.max.ensures, sym last) (
      scan_end inv.scan c.loop-edge-test.false,
      inv.side,
      rw end (sided_held c.ranges.closing c.requires.sided.1),
    )

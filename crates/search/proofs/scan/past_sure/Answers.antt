-- `past_sure` meets its contract: no edge from i on, before the one at hand, is near.
use mathlib.Core.Path.{◌≡◌, refl, sym, ap, ◌∙◌, subst}
use mathlib.Core.Bool.{Bool, true, false, ◌&&◌, cond, true≢false}
use Prim.Native.Nat.{ℕ, ◌+◌, ◌≤◌, ◌<◌}
use native.Mathlib.Omega.{arith}
use Rattle.integers.specs.Sign.{positive, negative, sign_of}
use Rattle.sphere.specs.Approximate.{float_dot_of, is_surely}
use Rattle.polygon.specs.Vertices.{vertices_count, vertex_at}
use Rattle.search.specs.Scan.{Scanning, side_of, is_near}
use Rattle.search.proofs.Laws.Scanned.{scan_start, scan_step}
use Rattle.search.proofs.Laws.Sure.{sure_side, strict_far}
use Rattle.search.proofs.scan.past_sure.Goals as goal
use Rattle.search.proofs.scan.past_sure.Goals.{Start, Else-not-sure}
use Rattle.search.proofs.scan.past_sure.Lts as lts
use Rattle.search.proofs.scan.past_sure.Reads as reads
use Rattle.search.proofs.scan.past_sure.Tie as tie

abbrev In-loop-edge : Type 0
In-loop-edge = lts.In-loop tie.the-claims reads.Pre reads.Post goal.the-invariant-loop-edge goal.the-decreases-loop-edge tie.handed_clauses

abbrev After-float_dot-second : Type 0
After-float_dot-second = lts.After-float_dot2 tie.the-claims reads.Pre reads.Post goal.the-invariant-loop-edge goal.the-decreases-loop-edge tie.handed_clauses

abbrev After-is_surely : Type 0
After-is_surely = lts.After-is_surely tie.the-claims reads.Pre reads.Post goal.the-invariant-loop-edge goal.the-decreases-loop-edge tie.handed_clauses

pub loop-edge-init : goal.loop-edge-init
loop-edge-init c = (scan_start, c.requires.i_bound.2)

pub overflow_add-edge : goal.overflow_add-edge
overflow_add-edge c =
    let scan = c.loop-edge.invariant.0 in
    omega (arith, scan.after, scan.before, c.requires.i_bound.0, c.requires.i_bound.1, c.requires.listed.0.most)

-- The two vertices of a turn.
module _ (c : In-loop-edge) where
  abbrev start : Start
  start = c.before.before

  abbrev edge : ℕ
  edge = c.loop-edge.edge

  more : edge + 2 < vertices_count start.args.vertices.now
  more = omega (arith, c.loop-edge-test.true, start.requires.i_bound.1)

  most : edge + 2 ≤ 4096
  most = omega (arith, more, start.requires.listed.0.most)

pub overflow_add-edge-in-loop-edge : goal.overflow_add-edge-in-loop-edge
overflow_add-edge-in-loop-edge c = omega (arith, most c.before)

pub vertex_at-requires : goal.vertex_at-requires
vertex_at-requires c = omega (arith, more c.before)

pub float_dot-first-requires : goal.float_dot-first-requires
float_dot-first-requires c =
    rw c.vertex_at.ensures ((start c.before.before).requires.listed.1.each _ (omega (arith, more c.before.before)))

pub overflow_add-edge-in-loop-edge-2 : goal.overflow_add-edge-in-loop-edge-2
overflow_add-edge-in-loop-edge-2 c = omega (arith, most c.before.before.before.before)

pub vertex_at-requires-in-loop-edge : goal.vertex_at-requires-in-loop-edge
vertex_at-requires-in-loop-edge c = omega (arith, more c.before.before.before.before)

pub float_dot-second-requires : goal.float_dot-second-requires
float_dot-second-requires c =
    rw c.vertex_at-in-loop-edge.ensures ((start c.before.before.before.before.before).requires.listed.1.each _ (omega (arith, more c.before.before.before.before.before)))

pub returns-then-not-sure : goal.returns-then-not-sure
returns-then-not-sure c = c.loop-edge.invariant

both : (a b : Bool) → (a && b) ≡ true → (a ≡ true) × (b ≡ true)
both true b e = (refl, e)
both false b e = absurd (true≢false (sym e))

-- Where both are sure.
module _ (c : Else-not-sure) where
  abbrev tests : After-is_surely
  tests = c.before.before

  abbrev dots : After-float_dot-second
  dots = tests.before

  sure : (tests.is_surely.result ≡ true) × (c.is_surely-in-loop-edge.result ≡ true)
  sure = both tests.is_surely.result c.is_surely-in-loop-edge.result (c.if-not-sure.false)

  abbrev at : In-loop-edge
  at = dots.before.before.before.before.before.before

  abbrev s : Start
  s = start at

  abbrev Above : ℕ → Type 0
  Above j = sign_of (side_of s.args.vertices.now s.args.plane.normal j)
      ≡ cond s.args.above positive negative

  side : (j : ℕ) → j < vertices_count s.args.vertices.now →
      is_surely s.args.above (float_dot_of s.args.plane.floats (vertex_at s.args.vertices.now j)) ≡ true →
      Above j
  side j h e = sure_side s.args.plane s.args.above s.requires.listed.1 s.requires.listed.3 s.requires.listed.2 j h e

  first : Above (edge at + 1)
  first =
      let turn = dots.float_dot-first.ensures ∙ ap (float_dot_of s.args.plane.floats) dots.vertex_at.ensures in
      side (edge at + 1) (omega (arith, more at))
      (ap (is_surely s.args.above) (sym turn) ∙ sym tests.is_surely.ensures ∙ sure.0)

  second : Above (edge at + 2)
  second =
      let turn = dots.float_dot-second.ensures ∙ ap (float_dot_of s.args.plane.floats) dots.vertex_at-in-loop-edge.ensures in
      side (edge at + 2) (more at)
      (ap (is_surely s.args.above) (sym turn) ∙ sym c.is_surely-in-loop-edge.ensures ∙ sure.1)

  here : Above (edge at)
  here = at.loop-edge.invariant.1.known (omega (arith, more at))

  on : edge at + 1 + 1 ≡ edge at + 2
  on = omega arith

  passed : Scanning (is_near s.args.vertices.now s.args.plane.normal) s.args.i s.args.last
      (edge at + 2)
  passed =
      let v = s.args in
      let far = strict_far v.vertices.now v.plane.normal v.above in
      let taken = at.loop-edge-test.true in
      subst (Scanning (is_near v.vertices.now v.plane.normal) v.i v.last) on
      (scan_step (scan_step at.loop-edge.invariant.0 (omega (arith, taken)) (far (edge at) here first)) taken
      (far (edge at + 1) first (subst Above (sym on) second)))

pub overflow_add-edge-in-loop-edge-3 : goal.overflow_add-edge-in-loop-edge-3
overflow_add-edge-in-loop-edge-3 c = omega (arith, most (at c))

pub loop-edge-smaller : goal.loop-edge-smaller
loop-edge-smaller c = omega (arith, (at c).loop-edge-test.true)

pub loop-edge-preserved : goal.loop-edge-preserved
loop-edge-preserved c = (passed c, record { known = λ h. second c })

pub returns : goal.returns
returns c = c.loop-edge.invariant

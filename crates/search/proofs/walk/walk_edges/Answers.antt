-- `walk_edges` meets its contract: what was tallied before the edge at hand, that edge, and those that a scan passes
-- are tallied before the next one.
use mathlib.Core.Path.{◌≡◌, sym, ◌∙◌, subst}
use mathlib.Core.List.{List}
use Prim.Native.Nat.{ℕ, ◌+◌, ◌≤◌, ◌<◌}
use native.Mathlib.Omega.{arith}
use lib.IntN.{ℤ, ◌+ℤ◌}
use mir.Syntax.{w32, w64}
use mir.Val.{SFits, to_z}
use mir.ValLaws.{to_z-of_z}
use Rattle.integers.proofs.Compare.{result_sign}
use Rattle.search.specs.declared.scan.Near.{Near}
use Rattle.search.specs.Scan.{NearFrom}
use Rattle.search.specs.Walk.{stops_at}
use Rattle.search.proofs.Laws.Arc.{reference}
use Rattle.search.proofs.Laws.OneSided.{tallied_past}
use Rattle.search.proofs.Laws.Near.{next_sided}
use Rattle.search.proofs.Laws.Scanned.{sided_held}
use Rattle.search.proofs.Laws.Tally.{TalliedOn, tallied_start, on_block, on_held, on_end}
use Rattle.search.proofs.Laws.Tally.{tallied_few, one_held, one_way, sum_fits, sum_held}
use Rattle.search.proofs.walk.walk_edges.Goals as goal
use Rattle.search.proofs.walk.walk_edges.Goals.{then-near-to, else-near-to+in-OnBorder}
use Rattle.search.proofs.walk.walk_edges.Goals.{At-loop-arc, After-counted-crossed}
use Rattle.search.proofs.walk.walk_edges.Lts as lts
use Rattle.search.proofs.walk.walk_edges.Reads as reads
use Rattle.search.proofs.walk.walk_edges.Tie as tie

abbrev Start : Type 0
Start = lts.Start tie.the-claims reads.Pre reads.Post goal.the-invariant-loop-arc goal.the-decreases-loop-arc tie.handed_clauses

abbrev After-near_from-near : Type 0
After-near_from-near = lts.After-near_from tie.the-claims reads.Pre reads.Post goal.the-invariant-loop-arc goal.the-decreases-loop-arc tie.handed_clauses

abbrev After-test_edge : Type 0
After-test_edge = lts.After-test_edge tie.the-claims reads.Pre reads.Post goal.the-invariant-loop-arc goal.the-decreases-loop-arc tie.handed_clauses

module _ (s : Start) where
  abbrev vs : List ℤ
  vs = s.args.vertices.now

  most : s.args.to ≤ 4096
  most = omega (arith, s.requires.from_lt_to.1, (reference s.requires.accepted_arc.0).accepted.listed.most)

  abbrev TalliedIn : ℕ → ℕ → ℤ → Type 0
  TalliedIn i crossed sum =
      TalliedOn (stops_at vs s.args.arc.to s.args.stop) vs s.args.arc.from s.args.arc.to
      s.args.from i crossed sum

  -- past the edges that a scan passes
  onward : {i crossed : ℕ} {sum : ℤ} {near : Near} → s.args.from ≤ i →
      NearFrom vs s.args.arc.from s.args.arc.to i s.args.to near →
      TalliedIn i crossed sum → TalliedIn near.edge crossed sum
  onward h n t =
      tallied_past vs s.args.arc.from s.args.arc.to (reference s.requires.accepted_arc.0).off_circle s.args.stop _ h
      n.after (omega (arith, n.before, s.requires.from_lt_to.1)) n.passed t

pub side_at-side-requires : goal.side_at-side-requires
side_at-side-requires c =
    let a = c.requires.accepted_arc.0 in record {
      gridded = ((reference a).accepted.gridded, a.sound.sound, omega (arith, c.requires.from_lt_to.0, c.requires.from_lt_to.1));
      sided = sided_held c.ranges.closing c.requires.accepted_arc.1;
    }

pub loop-arc-init : goal.loop-arc-init
loop-arc-init c =
    let d = c.side_at-side in
    record {
      after = omega arith;
      before = omega (arith, c.requires.from_lt_to.0);
      start = record { known = λ h. result_sign w64 d.result d.type_inv d.ensures };
      tallied = tallied_start c.args.from;
    }

pub near_from-near-requires : goal.near_from-near-requires
near_from-near-requires c =
    let inv = c.loop-arc.invariant in record {
      accepted_arc = (c.requires.accepted_arc.0, sided_held c.ranges.closing c.requires.accepted_arc.1, inv.start);
      i_le_to = (inv.before, c.requires.from_lt_to.1);
    }

-- The edge at hand, and what was tallied before it.
module _ (c : After-near_from-near) where
  abbrev at : At-loop-arc
  at = c.before

  abbrev entry : Start
  entry = at.before.before.before

  abbrev i : ℕ
  i = c.near_from-near.result.edge

  after : entry.args.from ≤ i
  after = omega (arith, at.loop-arc.invariant.after, c.near_from-near.ensures.after)

  here : TalliedIn entry i at.loop-arc.crossed (to_z w32 at.loop-arc.sum-bits)
  here = onward entry at.loop-arc.invariant.after c.near_from-near.ensures at.loop-arc.invariant.tallied

pub test_edge-requires : goal.test_edge-requires
test_edge-requires c =
    ((entry c.before.before).requires.accepted_arc.0, c.near_from-near.ensures.ends c.if-near-to.false)

module _ (c : After-counted-crossed) where
  abbrev tested : After-test_edge
  tested = c.before.before

  abbrev edge : After-near_from-near
  edge = tested.before.before.before

  more : i edge < (entry edge).args.to
  more = tested.if-near-to.false

  abbrev way : ℤ
  way = c.in-Way.way

  fit : SFits w32 way
  fit = record { sfits = c.in-Way.known_told-1-own.given.0.1 }

  next : let l = (at edge).loop-arc in
      TalliedIn (entry edge) (i edge + 1) (l.crossed + c.counted-crossed.result) (to_z w32 l.sum-bits +ℤ way)
  next =
      let s = (entry edge).args in
      on_block 1 (after edge) (here edge)
      (one_way (stops_at s.vertices.now s.arc.to s.stop) s.vertices.now s.arc.from s.arc.to
      (i edge)
      (sym tested.test_edge.ensures ∙ c.in-Way.is)
      (rw (to_z-of_z w32 way fit) at c.counted-crossed.ensures))

  few : i edge + 1 ≤ 4096
  few = omega (arith, more, most (entry edge))

pub overflow_add-crossed : goal.overflow_add-crossed
overflow_add-crossed c = omega (arith, tallied_few (next c), few c)

pub overflow_add-sum : goal.overflow_add-sum
overflow_add-sum c = sum_fits (at (edge c)).loop-arc.sum-bits (way c) (fit c) (few c) (next c)

pub overflow_add-i : goal.overflow_add-i
overflow_add-i c = omega (arith, few c.before)

pub loop-arc-smaller : goal.loop-arc-smaller
loop-arc-smaller c =
    omega (arith, (edge c.before.before).near_from-near.ensures.after, more c.before.before)

pub loop-arc-preserved : goal.loop-arc-preserved
loop-arc-preserved c =
    let e = edge c.before.before in
    let s = entry e in
    let fits : SFits w64 e.near_from-near.result.end = record { sfits = c.struct_told-1.given.1.1.0.1 } in
    record {
      after = omega (arith, after e);
      before = omega (arith, more c.before.before);
      start = sided_held fits (next_sided s.requires.accepted_arc.0.sound (e.near_from-near.ensures.ends (more c.before.before)));
      tallied = sum_held (at e).loop-arc.sum-bits (way c.before.before) (fit c.before.before) (few c.before.before) (next c.before.before);
    }

-- Where the loop is left: all edges are passed, or the edge at hand holds the query.
pub returns : goal.returns
returns c =
    let s = (entry c.before.before.before).args in
    let l = (at c.before.before.before).loop-arc in
    c.tally_by.ensures ∙ elim c.if-near-to.branch [
      | then-near-to w ↦
          let last : i c.before.before.before ≡ s.to = omega (arith, w.if-near-to.true, c.near_from-near.ensures.before) in
          let all = subst (λ i. TalliedIn (entry c.before.before.before) i l.crossed (to_z w32 l.sum-bits)) last (here c.before.before.before) in
          rw w.found-is (sym (on_end all))
      | else-near-to+in-OnBorder w ↦
          let found = one_held (stops_at s.vertices.now s.arc.to s.stop) s.vertices.now s.arc.from
          s.arc.to (i c.before.before.before)
          (sym w.test_edge.ensures ∙ w.in-OnBorder.is) in
          rw w.found-is (sym (on_held 1 (after c.before.before.before) (here c.before.before.before) s.to (omega (arith, w.if-near-to.false)) found))
    ]

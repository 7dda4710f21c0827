-- `add_judged` meets its contract: the first k results have the zone, the others are as they were.
use mathlib.Core.Path.{refl, subst, ◌∙◌}
use Prim.Native.Nat.{◌<◌}
use native.Mathlib.Omega.{arith}
use lib.ListN.{length}
use Rattle.sphere.specs.declared.point.Point.{Point}
use Rattle.answer.specs.Refusal.{Answer}
use Rattle.book_feed.specs.Adding.{SameSets}
use Rattle.book_feed.proofs.Laws.Adding.{nothing_added, added_holds, added_step, added_done}
use Rattle.book_feed.proofs.judged.add_judged.Invariants.{single}
use Rattle.book_feed.proofs.judged.add_judged.Goals as goal
use Rattle.book_feed.proofs.judged.add_judged.Lts as lts
use Rattle.book_feed.proofs.judged.add_judged.Reads as reads
use Rattle.book_feed.proofs.judged.add_judged.Tie as tie

abbrev Start : Type 0
Start = lts.Start tie.the-claims reads.Pre reads.Post goal.the-invariant-loop-k goal.the-decreases-loop-k tie.handed_clauses

abbrev At-loop-k : Type 0
At-loop-k = lts.At-loop tie.the-claims reads.Pre reads.Post goal.the-invariant-loop-k goal.the-decreases-loop-k tie.handed_clauses

-- Lengths are below 2^63. With so many arguments `search` does not come to these.
many : (s : Start) → length s.args.queries.now < 9223372036854775808
many s = omega (arith, s.well_formed.1.1.1.1.1.1.1.1.1.1.1.1.1.1.0.1)

large : (s : Start) → length s.args.results.now < 9223372036854775808
large s = omega (arith, s.well_formed.1.1.1.1.1.1.1.1.1.1.1.1.1.1.1.0.1)

-- From the loop: the call's arguments, and that record k has room.
module _ (l : At-loop-k) where
  abbrev start : Start
  start = l.before.before.before.before.before.before.before.before

  abbrev answered : Point → Answer
  answered = single start.args.grid start.args.vertices.now start.args.known start.args.second

pub loop-k-init : goal.loop-k-init
loop-k-init c =
    let s = c.args in (
      omega arith,
      nothing_added s.zone (single s.grid s.vertices.now s.known s.second) s.queries.now
          s.results.now,
      refl,
      refl,
    )

pub overflow_mul-k : goal.overflow_mul-k
overflow_mul-k c =
    let h = c.loop-k-test.true in
    record { fits = omega (arith, h, many (start c.before.before)) }

pub point_at-query-requires : goal.point_at-query-requires
point_at-query-requires c = let h = c.loop-k-test.true in omega arith

pub answer_for-answer-requires : goal.answer_for-answer-requires
answer_for-answer-requires c =
    let s = start c.before.before.before.before in record {
      second_value = s.requires.second_value;
      index_on = s.requires.index_on;
      sound = s.requires.sound;
    }

pub overflow_mul-k-in-loop-k : goal.overflow_mul-k-in-loop-k
overflow_mul-k-in-loop-k c =
    let room = ((start c.before.before.before.before.before.before.before.before).requires.zone_bound.1.each c.loop-k.k c.loop-k-test.true).room in
    record { fits = omega (arith, room, large (start c.before.before.before.before.before.before.before.before)) }

pub add_to-requires : goal.add_to-requires
add_to-requires c =
    let s = start c.before.before.before.before.before.before.before.before in
    let a = s.args in (
      s.requires.zone_bound.0,
      added_holds a.zone (answered c.before.before.before.before.before.before.before.before) a.queries.now a.results.now s.requires.zone_bound.1 c.loop-k.k
          c.loop-k-test.true _ c.loop-k.invariant.1,
    )

pub overflow_step-k : goal.overflow_step-k
overflow_step-k c =
    record { fits = omega (arith, c.loop-k-test.true, many (start c.before.before.before.before.before.before.before.before.before.before.before)) }

pub loop-k-preserved : goal.loop-k-preserved
loop-k-preserved c =
    let s = start c.before.before.before.before.before.before.before.before.before.before.before in
    let a = s.args in
    let room = (s.requires.zone_bound.1.each c.loop-k.k c.loop-k-test.true).room in (
      omega arith,
      added_step a.zone (answered c.before.before.before.before.before.before.before.before.before.before.before) a.queries.now a.results.now c.loop-k.k c.answer_for-answer.result _ _
          (omega (arith, room)) c.loop-k.invariant.1
          (subst (λ P. SameSets c.answer_for-answer.result (answered c.before.before.before.before.before.before.before.before.before.before.before P)) c.point_at-query.ensures c.answer_for-answer.ensures)
          c.add_to.ensures,
      c.add_to.auto.results ∙ c.loop-k.invariant.2,
      c.answer_for-answer.auto.near ∙ c.loop-k.invariant.3,
    )

pub shape_of-near : goal.shape_of-near
shape_of-near c = c.loop-k.invariant.3

pub shape_of-results : goal.shape_of-results
shape_of-results c = c.loop-k.invariant.2

pub returns : goal.returns
returns c =
    let a = (start c.before.before).args in
    c.loop-k.invariant.1
    ∙ added_done a.zone (answered c.before.before) a.queries.now a.results.now _
    (omega (arith, c.loop-k-test.false, c.loop-k.invariant.0))

-- `walk_spans` meets its contract: what was tallied before run r, a span, and the edges left out before and after it
-- are tallied before the next run.
use mathlib.Core.Path.{◌≡◌, sym, ◌∙◌, subst}
use mathlib.Core.Bool.{true}
use mathlib.Core.List.{List}
use Prim.Native.Nat.{ℕ, ◌+◌, ◌-◌, ◌/◌, ◌≤◌, ◌<◌}
use native.Mathlib.Omega.{arith}
use lib.IntN.{ℤ, pos, ◌+ℤ◌}
use mir.Syntax.{w32}
use mir.Val.{SFits, to_z}
use Rattle.polygon.specs.Vertices.{vertices_count}
use Rattle.search.specs.declared.spans.Span.{Span}
use Rattle.search.specs.declared.walk.Tally.{Tally}
use Rattle.search.specs.Scan.{is_one_sided}
use Rattle.search.specs.Spans.{run_start}
use Rattle.std.specs.Prelude.{max}
use Rattle.search.specs.Walk.{stops_at, tally_on}
use Rattle.search.proofs.Laws.Arc.{reference}
use Rattle.search.proofs.Laws.OneSided.{tallied_past}
use Rattle.search.proofs.Laws.Runs.{run_of, runs_few, start_runs}
use Rattle.search.proofs.Laws.Scanned.{sided_result}
use Rattle.search.proofs.Laws.Spans.{spanned_within}
use Rattle.search.proofs.Laws.Tally.{TalliedOn, tallied_start, on_block, on_held, on_end}
use Rattle.search.proofs.Laws.Tally.{tallied_few, sum_fits, sum_held}
use Rattle.search.proofs.walk.walk_spans.Goals as goal
use Rattle.search.proofs.walk.walk_spans.Goals.{then-span, else-span+in-Held}
use Rattle.search.proofs.walk.walk_spans.Goals.{At-loop-arc, In-Crossed}
use Rattle.search.proofs.walk.walk_spans.Lts as lts
use Rattle.search.proofs.walk.walk_spans.Reads as reads
use Rattle.search.proofs.walk.walk_spans.Tie as tie

abbrev Start : Type 0
Start = lts.Start tie.the-claims reads.Pre reads.Post goal.the-invariant-loop-arc goal.the-decreases-loop-arc tie.handed_clauses

abbrev After-next_span-span : Type 0
After-next_span-span = lts.After-next_span tie.the-claims reads.Pre reads.Post goal.the-invariant-loop-arc goal.the-decreases-loop-arc tie.handed_clauses

abbrev After-walk_edges : Type 0
After-walk_edges = lts.After-walk_edges tie.the-claims reads.Pre reads.Post goal.the-invariant-loop-arc goal.the-decreases-loop-arc tie.handed_clauses

module _ (s : Start) where
  abbrev vs : List ℤ
  vs = s.args.vertices.now

  abbrev n : ℕ
  n = vertices_count vs

  abbrev begin : ℕ
  begin = s.args.from

  abbrev TalliedTo : ℕ → ℕ → ℤ → Type 0
  TalliedTo i crossed sum =
      TalliedOn (stops_at vs s.args.arc.to s.args.stop) vs s.args.arc.from s.args.arc.to begin i
      crossed sum

  most : n ≤ 4096
  most = (reference s.requires.0.aimed).accepted.listed.most

  -- past edges on one side
  past : {i crossed : ℕ} {sum : ℤ} (to : ℕ) → begin ≤ i → i ≤ to → to ≤ n →
      ((j : ℕ) → i ≤ j → j < to → is_one_sided vs s.args.arc.from s.args.arc.to j ≡ true) →
      TalliedTo i crossed sum → TalliedTo to crossed sum
  past to b h l all t =
      tallied_past vs s.args.arc.from s.args.arc.to (reference s.requires.0.aimed).off_circle s.args.stop
      to b h l all t

  -- from where the local says
  said : (to : ℕ) {i j : ℕ} {tally : Tally} → i ≡ j →
      tally_on (stops_at vs s.args.arc.to s.args.stop) vs s.args.arc.from s.args.arc.to i (to - i)
      ≡ tally →
      tally_on (stops_at vs s.args.arc.to s.args.stop) vs s.args.arc.from s.args.arc.to j (to - j)
      ≡ tally
  said to {i} {j} {tally} e h =
      subst (λ i. tally_on (stops_at vs s.args.arc.to s.args.stop) vs s.args.arc.from s.args.arc.to i
      (to - i) ≡ tally) e h

pub vertex_at-requires : goal.vertex_at-requires
vertex_at-requires c = omega (arith, (reference c.requires.0.aimed).accepted.listed.least)

pub side_of-closing-requires : goal.side_of-closing-requires
side_of-closing-requires c =
    let a = (reference c.requires.0.aimed).accepted in (
      c.requires.0.aimed.sound.sound,
      rw c.vertex_at.ensures (a.gridded.each 0 (omega (arith, a.listed.least))),
    )

pub loop-arc-init : goal.loop-arc-init
loop-arc-init c =
    let own : begin c.before.before.before ≡ max (begin c.before.before.before) (run_start (n c.before.before.before) (begin c.before.before.before / 32)) = omega arith in (
      omega arith,
      omega (arith, run_of (n c.before.before.before) (begin c.before.before.before) c.requires.1),
      subst (λ i. TalliedTo c.before.before.before i 0 (pos 0)) own (tallied_start (begin c.before.before.before)),
    )

pub next_span-span-requires : goal.next_span-span-requires
next_span-span-requires c =
    (c.requires.0, omega (arith, c.loop-arc.invariant.1, runs_few (n c.before.before.before.before) (most c.before.before.before.before)))

-- The next span, and what was tallied before it.
module _ (c : After-next_span-span) where
  abbrev at : At-loop-arc
  at = c.before

  abbrev start : Start
  start = at.before.before.before.before

  abbrev span : Span
  span = c.next_span-span.result

  -- where the walk goes on
  abbrev on : ℕ
  on = max (begin start) span.from

  inside : on ≤ n start
  inside = omega (arith, spanned_within c.next_span-span.ensures, start.requires.1)

  here : TalliedTo start on at.loop-arc.crossed (to_z w32 at.loop-arc.sum-bits)
  here =
      let p = c.next_span-span.ensures in
      past start on (omega arith) (omega (arith, p.after)) inside
      (λ j h l. p.left_before j (omega (arith, h)) (omega (arith, h, l))) at.loop-arc.invariant.2

  -- a span that is not empty
  less : span.from < span.to → on < span.to
  less h =
      let l = at.loop-arc in
      let w = c.next_span-span.ensures.whole h in
      omega (arith, h, w, l.invariant.0, start.requires.1)

pub walk_edges-requires : goal.walk_edges-requires
walk_edges-requires c =
    let s = start c.before.before.before in
    let side = (at c.before.before.before).side_of-closing in
    let begins = c.max-begin.ensures in record {
      accepted_arc = (
        s.requires.0.aimed,
        sided_result side.result (record { sfits = side.type_inv }) side.ensures (at c.before.before.before).vertex_at.ensures,
      );
      from_lt_to = (omega (arith, begins, less c.before.before.before c.if-span.false), c.next_span-span.ensures.within);
    }

-- No edge of the span holds the query.
module _ (c : In-Crossed) where
  abbrev walked : After-walk_edges
  walked = c.before

  abbrev a : After-next_span-span
  a = walked.before.before.before.before

  some : (span a).from < (span a).to
  some = walked.if-span.false

  abbrev ways : ℤ
  ways = c.in-Crossed.ways

  fit : SFits w32 ways
  fit = record { sfits = c.in-Crossed.known_told-in-Crossed-1-own.given.1.0.1 }

  next : TalliedTo (start a) (max (begin (start a)) (run_start (n (start a)) (span a).next))
      ((at a).loop-arc.crossed + c.in-Crossed.more) (to_z w32 (at a).loop-arc.sum-bits +ℤ ways)
  next =
      let p = a.next_span-span.ensures in
      let l = less a some in
      let there : on a + ((span a).to - on a) ≡ (span a).to = omega (arith, l) in
      past (start a) _ (omega (arith, l)) (omega (arith, p.behind, l)) (omega (arith, (start a).requires.1))
      (λ j h m. p.left_after j h (omega (arith, h, m, l)))
      (subst (λ i. TalliedTo (start a) i ((at a).loop-arc.crossed + c.in-Crossed.more) (to_z w32 (at a).loop-arc.sum-bits
      +ℤ ways)) there
      (on_block ((span a).to - on a) (omega arith) (here a)
      (said (start a) (span a).to walked.max-begin.ensures
      (sym walked.walk_edges.ensures ∙ c.in-Crossed.is))))

  few : max (begin (start a)) (run_start (n (start a)) (span a).next) ≤ 4096
  few = omega (arith, most (start a), (start a).requires.1)

pub overflow_add-crossed : goal.overflow_add-crossed
overflow_add-crossed c = omega (arith, tallied_few (next c), few c)

pub overflow_add-sum : goal.overflow_add-sum
overflow_add-sum c = sum_fits (at (a c)).loop-arc.sum-bits (ways c) (fit c) (few c) (next c)

pub loop-arc-smaller : goal.loop-arc-smaller
loop-arc-smaller c =
    let p = (a c).next_span-span.ensures in
    let more : run_start (n (start (a c))) (at (a c)).loop-arc.r < n (start (a c)) =
    omega (arith, p.after, some c, p.within) in
    omega (arith, (p.onward (some c)).0, start_runs (n (start (a c))) (at (a c)).loop-arc.r more)

pub loop-arc-preserved : goal.loop-arc-preserved
loop-arc-preserved c = (
  omega (arith, (at (a c)).loop-arc.invariant.0, ((a c).next_span-span.ensures.onward (some c)).0),
  ((a c).next_span-span.ensures.onward (some c)).1,
  sum_held (at (a c)).loop-arc.sum-bits (ways c) (fit c) (few c) (next c),
)

-- Where the loop is left: all edges are passed, or one of the span holds the query.
pub returns : goal.returns
returns c =
    let s = start c.before.before.before in
    let l = (at c.before.before.before).loop-arc in
    let p = c.next_span-span.ensures in
    c.tally_by.ensures ∙ elim c.if-span.branch [
      | then-span w ↦
          let last : on c.before.before.before ≡ n s = omega (arith, p.last w.if-span.true, s.requires.1) in
          let all = subst (λ i. TalliedTo s i l.crossed (to_z w32 l.sum-bits)) last (here c.before.before.before) in
          rw w.found-is (sym (on_end all))
      | else-span+in-Held w ↦
          let more = less c.before.before.before w.if-span.false in
          let within : on c.before.before.before + ((span c.before.before.before).to - on c.before.before.before) ≤ n s = omega (arith, more, p.within) in
          let held = on_held ((span c.before.before.before).to - on c.before.before.before) (omega arith) (here c.before.before.before) (n s) within
          (said s (span c.before.before.before).to w.max-begin.ensures (sym w.walk_edges.ensures ∙ w.in-Held.is)) in
          rw w.found-is (sym held)
    ]

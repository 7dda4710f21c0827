-- `mark_class` meets its contract: what was counted and marked before run r, a span, and the edges left out before and
-- after it, which are not coincident with edge i, are counted and marked before the next run.
use mathlib.Core.Path.{◌≡◌, sym, ◌∙◌, ap, subst}
use mathlib.Core.Bool.{Bool, true, false}
use mathlib.Core.List.{List}
use Prim.Native.Nat.{ℕ, ◌+◌, ◌-◌, ◌/◌, ◌≤◌, ◌<◌}
use native.Mathlib.Omega.{arith}
use lib.IntN.{ℤ}
use Rattle.answer.specs.Search.{count_from}
use Rattle.polygon.specs.Vertices.{vertices_count, start_of, end_of}
use Rattle.polygon.specs.Border.{is_coincident}
use Rattle.polygon.proofs.Laws.Checks.{gridded_fine}
use Rattle.polygon.proofs.Laws.Edges.{end_within}
use Rattle.corridors.specs.Marked.{Marked}
use Rattle.corridors.proofs.Laws.Marked.{marked_none, marked_append}
use Rattle.search.specs.declared.spans.Span.{Span}
use Rattle.search.specs.Scan.{is_one_sided}
use Rattle.search.specs.Spans.{run_start}
use Rattle.search.proofs.Laws.Arc.{reference}
use Rattle.search.proofs.Laws.Coincident.{one_sided_not_coincident}
use Rattle.search.proofs.Laws.Counted.{Counted, counted_start, counted_block, counted_past, counted_few}
use Rattle.search.proofs.Laws.Runs.{run_of, runs_few, start_runs}
use Rattle.search.proofs.Laws.Spans.{spanned_within}
use Rattle.search.proofs.border.mark_class.Invariants.{Reached}
use Rattle.search.proofs.border.mark_class.Goals as goal
use Rattle.search.proofs.border.mark_class.Goals.{At-loop-arc}
use Rattle.search.proofs.border.mark_class.Lts as lts
use Rattle.search.proofs.border.mark_class.Reads as reads
use Rattle.search.proofs.border.mark_class.Tie as tie

abbrev Start : Type 0
Start = lts.Start tie.the-claims reads.Pre reads.Post goal.the-invariant-loop-arc goal.the-decreases-loop-arc tie.handed_clauses

abbrev After-next_span-span : Type 0
After-next_span-span = lts.After-next_span tie.the-claims reads.Pre reads.Post goal.the-invariant-loop-arc goal.the-decreases-loop-arc tie.handed_clauses

abbrev After-mark_edges-count : Type 0
After-mark_edges-count = lts.After-mark_edges tie.the-claims reads.Pre reads.Post goal.the-invariant-loop-arc goal.the-decreases-loop-arc tie.handed_clauses

abbrev After-slice_known-in-loop-arc-1 : Type 0
After-slice_known-in-loop-arc-1 = lts.After-slice_known2 tie.the-claims reads.Pre reads.Post goal.the-invariant-loop-arc goal.the-decreases-loop-arc tie.handed_clauses

module _ {test : ℕ → Bool} {from : ℕ} {marks : List ℕ} {j count : ℕ} {now : List ℕ}
    (r : Reached test from marks j count now) where
  gap : (to : ℕ) → j ≤ to → ((k : ℕ) → j ≤ k → k < to → test k ≡ false) → Reached test from marks to count now
  gap to h none = record {
    after = omega (arith, r.after);
    counted = counted_past test r.after r.counted to h none;
    marked = marked_append r.after h r.marked (marked_none none);
  }

  -- by the same test
  block : {own : ℕ → Bool} → own ≡ test → {to k : ℕ} {next : List ℕ} → j ≤ to → k ≡ count_from own j (to - j) →
      Marked own j to now next → Reached test from marks to (count + k) next
  block {own} same {to} {k} {next} h e m =
      let there : j + (to - j) ≡ to = omega arith in
      record {
        after = omega (arith, r.after);
        counted = subst (λ i. Counted test from i (count + k)) there
            (counted_block test r.after r.counted (to - j) (e ∙ ap (λ t. count_from t j (to - j)) same));
        marked = marked_append r.after h r.marked (subst (λ t. Marked t j to now next) same m);
      }

module _ (s : Start) where
  abbrev vs : List ℤ
  vs = s.args.vertices.now

  abbrev n : ℕ
  n = vertices_count vs

  abbrev test : ℕ → Bool
  test = is_coincident vs (start_of vs s.args.i) (end_of vs s.args.i)

  most : n ≤ 4096
  most = (reference s.requires.0.aimed).accepted.listed.most

  -- an edge on one side is not coincident with edge i
  apart : (j : ℕ) → j < n → is_one_sided vs s.args.arc.from s.args.arc.to j ≡ true → test j ≡ false
  apart =
      one_sided_not_coincident vs s.args.arc.from s.args.arc.to (reference s.requires.0.aimed).off_circle
      s.args.i s.requires.1 s.requires.2

pub vertex_at-c-requires : goal.vertex_at-c-requires
vertex_at-c-requires c = omega (arith, c.requires.1)

pub end_of-d-requires : goal.end_of-d-requires
end_of-d-requires c = c.requires.1

pub loop-arc-init : goal.loop-arc-init
loop-arc-init c =
    record {
      before = omega (arith, c.requires.1, run_of (n c.before.before.before.before) c.args.i c.requires.1);
      reached = record {
        after = omega arith;
        counted = counted_start _ _;
        marked = marked_none (λ j h l. absurd (omega (arith, h, l)));
      };
    }

pub next_span-span-requires : goal.next_span-span-requires
next_span-span-requires c =
    (c.requires.0, omega (arith, c.loop-arc.invariant.before, runs_few (n c.before.before.before.before) (most c.before.before.before.before)))

-- The next span, and what was reached before it.
module _ (c : After-next_span-span) where
  abbrev at : At-loop-arc
  at = c.before

  abbrev start : Start
  start = at.before.before.before.before

  abbrev span : Span
  span = c.next_span-span.result

  here : Reached (test start) (run_start (n start) (start.args.i / 32)) start.args.marks.now span.from
      at.loop-arc.count at.loop-arc.marks
  here =
      let p = c.next_span-span.ensures in
      gap at.loop-arc.invariant.reached span.from p.after
      (λ j h l. apart start j (omega (arith, l, spanned_within p)) (p.left_before j h l))

pub mark_edges-count-requires : goal.mark_edges-count-requires
mark_edges-count-requires c =
    let s = start c.before.before.before in
    let r = (reference s.requires.0.aimed).accepted in
    let grid = gridded_fine s.args.arc.plane.grid r.gridded in record {
      listed = (
        r.listed,
        grid,
        rw (at c.before.before.before).vertex_at-c.ensures (grid.each s.args.i s.requires.1),
        end_within grid s.requires.1 (at c.before.before.before).end_of-d.ensures,
      );
      from_lt_to = (c.if-span.false, c.next_span-span.ensures.within);
    }

-- The span's edges, and those left out after it.
module _ (c : After-slice_known-in-loop-arc-1) where
  abbrev marked : After-mark_edges-count
  marked = c.before.before

  abbrev a : After-next_span-span
  a = marked.before.before.before.before

  some : (span a).from < (span a).to
  some = marked.if-span.false

  -- by the ends of edge i, as the locals hold them
  own : is_coincident (vs (start a)) (at a).vertex_at-c.result (at a).end_of-d.result
      ≡ test (start a)
  own = λ j. is_coincident (vs (start a)) ((at a).vertex_at-c.ensures j) ((at a).end_of-d.ensures j)

pub overflow_add-count : goal.overflow_add-count
overflow_add-count c =
    let e = (marked c.before).mark_edges-count.ensures in
    omega (
      arith,
      counted_few _ (block (here (a c.before)) (own c.before) (omega (arith, some c.before)) e.0 e.1).counted,
      (a c.before).next_span-span.ensures.within,
      most (start (a c.before)),
    )

pub loop-arc-smaller : goal.loop-arc-smaller
loop-arc-smaller c =
    let p = (a c.before).next_span-span.ensures in
    let s = start (a c.before) in
    let more : run_start (n s) (at (a c.before)).loop-arc.r < n s = omega (arith, p.after, some c.before, p.within) in
    omega (arith, (p.onward (some c.before)).0, start_runs (n s) (at (a c.before)).loop-arc.r more)

pub loop-arc-preserved : goal.loop-arc-preserved
loop-arc-preserved c =
    let p = (a c.before).next_span-span.ensures in
    let s = start (a c.before) in
    let e = (marked c.before).mark_edges-count.ensures in
    record {
      before = (p.onward (some c.before)).1;
      reached = gap (block (here (a c.before)) (own c.before) (omega (arith, some c.before)) e.0 e.1)
          (run_start (n s) (span (a c.before)).next) p.behind
          (λ j h l. apart s j (omega (arith, l)) (p.left_after j h l));
    }

-- No edge is left.
pub returns-then-span : goal.returns-then-span
returns-then-span c =
    let last = c.next_span-span.ensures.last c.if-span.true in
    let all = here c.before.before in (
      sym (subst (λ i. Counted (test (start c.before.before)) (run_start (n (start c.before.before)) ((start c.before.before).args.i / 32)) i (at c.before.before).loop-arc.count)
          last all.counted).before,
      subst (λ i. Marked (test (start c.before.before)) (run_start (n (start c.before.before)) ((start c.before.before).args.i / 32)) i (start c.before.before).args.marks.now
          (at c.before.before).loop-arc.marks) last all.marked,
    )

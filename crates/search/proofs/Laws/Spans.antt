-- Runs that are skipped and runs that are not. Proved, in order: cornered (the boxes of all runs are within the grid),
-- run_skipped (what a scan says of a run), spanned (where two scans stop), whole_spanned,
-- spanned_within.
use mathlib.Core.Path.{◌≡◌, refl, subst}
use mathlib.Core.Bool.{Bool, beq, true, false}
use mathlib.Core.List.{List}
use Prim.Native.Nat.{ℕ, ◌+◌, ◌≤◌, ◌<◌}
use native.Mathlib.Omega.{arith}
use borrow.Author.Tests.{ltb-true, ltb-false}
use lib.Dec.{ltb}
use lib.IntN.{ℤ}
use Rattle.sphere.specs.declared.point.Point.{Point}
use Rattle.sphere.specs.Point.{limit_of}
use Rattle.sphere.specs.Orientation.{cross_of}
use Rattle.polygon.specs.Vertices.{vertices_count}
use Rattle.search.specs.declared.arc.Arc.{Arc}
use Rattle.search.specs.declared.spans.Span.{Span}
use Rattle.search.specs.Arc.{Searchable}
use Rattle.search.specs.Boxes.{run_count, Boxed, is_skipped}
use Rattle.search.specs.Spans.{run_start, Cornered, is_run, Spanned}
use Rattle.search.proofs.Laws.Arc.{reference}
use Rattle.search.proofs.Laws.Runs.{runs_few, runs_below, start_last, start_runs}
use Rattle.search.proofs.Laws.Skipped.{box_within, skipped_between}
use Rattle.search.proofs.Laws.Scanned.{Stopped}

-- ---- one run
pub cornered : {vs boxes : List ℤ} {arc : Arc} → Searchable vs boxes arc → (k : ℕ) → k ≤ vertices_count vs →
    Cornered (limit_of arc.plane.grid) boxes (run_count k)
cornered {vs} {boxes} s k h =
    let a = (reference s.aimed).accepted in
    let n = vertices_count vs in
    let below = runs_below k n h in
    record {
      room = omega (arith, below, s.boxed.room);
      few = omega (arith, below, runs_few n a.listed.most);
      each = λ r l.
          let m : r < run_count n = omega (arith, l, below) in rw (s.boxed.each r m) (box_within a.gridded r m);
    }

beq_back : (a s : Bool) {t : Bool} → beq a s ≡ t → a ≡ beq s t
beq_back true true e = subst (λ t. true ≡ beq true t) e refl
beq_back true false e = subst (λ t. true ≡ beq false t) e refl
beq_back false true e = subst (λ t. false ≡ beq true t) e refl
beq_back false false e = subst (λ t. false ≡ beq false t) e refl

pub run_skipped : {vs boxes : List ℤ} (X P : Point) {N : Point} (s : Bool) {t : Bool} (r : ℕ) → Boxed vs boxes →
    N ≡ cross_of X P → r < run_count (vertices_count vs) → is_run boxes N s r ≡ t → is_skipped vs X P r ≡ beq s t
unfolding is_run is_skipped
run_skipped X P s r b e h run = beq_back _ s (rw (b.each r h, e) at run)

-- ---- two scans, for a run that is not skipped and for one that is
module _ {vs boxes : List ℤ} {arc : Arc} (s : Searchable vs boxes arc) {r first end : ℕ}
    (at_first : Stopped (is_run boxes arc.plane.normal false) r (run_count (vertices_count vs)) first)
    (at_end : Stopped (is_run boxes arc.plane.normal true) (first + 1) (run_count (vertices_count vs)) end) where
  abbrev n : ℕ
  n = vertices_count vs

  run : (t : Bool) {u : Bool} (q : ℕ) → q < run_count n → is_run boxes arc.plane.normal t q ≡ u →
      is_skipped vs arc.from arc.to q ≡ beq t u
  run t q = run_skipped arc.from arc.to t q s.boxed s.aimed.sound.through

  before : (q : ℕ) → r ≤ q → q < first → q < run_count n → is_skipped vs arc.from arc.to q ≡ true
  before q h l m = run false q m (at_first.all q h (omega (arith, l, at_first.after)))

  after : (q : ℕ) → end ≤ q → q < end + 1 → q < run_count n → is_skipped vs arc.from arc.to q ≡ true
  after q h l m =
      let same : end ≡ q = omega (arith, h, l) in
      subst (λ q. is_skipped vs arc.from arc.to q ≡ true) same
      (run true end (omega (arith, m, same)) (at_end.hit (omega (arith, m, same))))

  pub spanned : Spanned vs arc.from arc.to r
      (record { from = run_start n first; to = run_start n end; next = end + 1 })
  spanned = record {
    after = omega (arith, at_first.after);
    within = omega arith;
    last = λ h. omega (arith, h, at_end.after);
    onward = λ h. (
      omega (arith, at_first.after, at_end.after),
      omega (arith, at_end.before, at_end.after, start_runs n first (omega (arith, h))),
    );
    whole = λ h. omega (arith, at_first.after, at_end.after);
    behind = omega arith;
    left_before = λ j h l. skipped_between vs arc.from arc.to r first before j h l;
    left_after = λ j h l. skipped_between vs arc.from arc.to end (end + 1) after j h l;
  }

-- All edges from run r on.
pub whole_spanned : (vs : List ℤ) (X P : Point) (r : ℕ) →
    let n = vertices_count vs in Spanned vs X P r (record { from = run_start n r; to = n; next = run_count n + 1 })
whole_spanned vs X P r =
    let n = vertices_count vs in
    record {
      after = omega arith;
      within = omega arith;
      last = λ h. omega (arith, h);
      onward = λ h. (omega (arith, start_runs n r h), omega arith);
      whole = λ h. omega arith;
      behind = omega (arith, start_last n (run_count n + 1) (omega arith));
      left_before = λ j h l. absurd (omega (arith, h, l));
      left_after = λ j h l. absurd (omega (arith, h, l));
    }

-- A span begins within the polygon, or at its end.
pub spanned_within : {vs : List ℤ} {X P : Point} {r : ℕ} {s : Span} → Spanned vs X P r s → s.from ≤ vertices_count vs
spanned_within {vs} {X} {P} {r} {s} p = go (ltb s.from s.to) refl
  where
    go : (t : Bool) → ltb s.from s.to ≡ t → s.from ≤ vertices_count vs
    go true e = omega (arith, ltb-true s.from s.to e, p.within)
    go false e = omega (arith, p.last (ltb-false s.from s.to e))

-- The loop over a text's bytes. Defined: Kept (what the code keeps after i bytes of a text that is alive there). Proved, in
-- order: kept_start, kept_room; next_small, kept_dead, next_alive, kept_next (one byte more); kept_first, kept_second, kept_cut,
-- kept_listed (the end).
use mathlib.Core.Path.{◌≡◌, sym, ap, ◌∙◌}
use mathlib.Core.List.{List}
use Prim.Native.Nat.{ℕ, suc, ◌+◌, ◌-◌, ◌≤◌, ◌<◌}
use native.Mathlib.Omega.{arith}
use borrow.Author.Tests.{eq-eqb, ne_eqb}
use lib.Arith.{lt_of_le-ne}
use lib.IntN.{ℤ}
use lib.ListN.{length, get_or}
use Rattle.std.specs.declared.result.Result.TheVariants.{Ok, Err}
use Rattle.sphere.specs.declared.point.Grid.{Grid}
use Rattle.answer.specs.declared.Reason.TheVariants.{PolygonText}
use Rattle.answer.specs.Refusal.{refused_at}
use Rattle.positions.specs.declared.grammar.State.{State}
use Rattle.positions.specs.Text.{next_of, start, read}
use Rattle.positions.specs.declared.number.Pending.{Pending}
use Rattle.positions.specs.declared.ring.Ring.{Ring}
use Rattle.positions.specs.Ring.{empty_ring}
use Rattle.positions.specs.Number.{Small, fresh, walked, held}
use Rattle.positions.proofs.TextLaws.{next_ok, read_dead, read_on, read_end}
use Rattle.positions.proofs.RingLaws.{small_walked, done_length}
use Rattle.geojson.specs.declared.ahead.Reached.{Reached}
use Rattle.geojson.specs.declared.scan.Reader.{Reader}
use Rattle.geojson.specs.Scan.{Scanned, step_of, out_of, finish_of, scanned_of, Listed, Past}
use Rattle.geojson.proofs.Laws.{reader_at, Filled, start_reader, start_filled, step_reader, step_filled, run_reader, run_filled}
use Rattle.geojson.proofs.Laws.{scan_dead, scan_whole, listed}

pub record Kept (g : Grid) (text : List ℕ) (i : ℕ) (s : State) (r : Reader) (out : List ℤ) : Type 0 where
  pub inside : i ≤ length text
  pub alive : s.at < 76
  pub ring : s.ring < 29
  pub reads : read text s i (length text - i) ≡ read text start 0 (length text)
  pub reader : r ≡ reader_at text i
  pub filled : Filled g out (walked held text i).done

pub kept_start : (g : Grid) (text : List ℕ) (out : List ℤ) {p : Pending} {r : Ring} → length out ≡ 12291 →
    p ≡ fresh → r ≡ empty_ring → Kept g text 0 start (record { pending = p; ring = r }) out
kept_start g text out size no-number no-ring =
    let e : length text - 0 ≡ length text = omega arith in
    record {
      inside = omega arith;
      alive = omega arith;
      ring = omega arith;
      reads = rw e;
      reader = rw (no-number, no-ring) (start_reader text);
      filled = start_filled g text out size;
    }

module _ {g : Grid} {text : List ℕ} {i : ℕ} {s : State} {r : Reader} {out : List ℤ} (k : Kept g text i s r out) where
  pub kept_room : Small r.pending × (r.ring.count ≤ i)
  kept_room =
      let e = ap (λ z. z.ring.count) k.reader in
      let d = done_length held text i in
      (rw k.reader (small_walked text i), omega arith)

  -- ---- one byte more

  module _ {q : Reader} (step : q ≡ step_of r (get_or text i 0)) where
    next_reader : q ≡ reader_at text (suc i)
    next_reader = step ∙ ap (λ z. step_of z (get_or text i 0)) k.reader ∙ step_reader text i

    pub next_small : Small q.pending
    next_small = rw next_reader (small_walked text (suc i))

  module _ (h : i < length text) {n : State} (is : n ≡ next_of s (get_or text i 0)) where
    pub kept_dead : n.at ≡ 76 → Err (refused_at PolygonText i) ≡ scanned_of text
    kept_dead e =
        scan_dead text i (sym k.reads ∙ read_dead text s i (length text) h (ap (λ z. z.at) (sym is) ∙ e))

    module _ (on : n.at ≡ 76 → ⊥) where
      pub next_alive : (n.at < 76) × (n.ring < 29)
      next_alive =
          let l = next_ok s (get_or text i 0) k.alive k.ring in
          rw is (lt_of_le-ne l.at (λ e. on (ap (λ z. z.at) is ∙ e)), l.ring)

      next_reads : read text n (suc i) (length text - suc i) ≡ read text start 0 (length text)
      next_reads =
          rw is (sym (read_on text s i (length text) h (λ e. on (ap (λ z. z.at) is ∙ e))) ∙ k.reads)

      pub kept_next : {q : Reader} {more : List ℤ} {z : Reached} → q ≡ step_of r (get_or text i 0) →
          more ≡ out_of g r (get_or text i 0) out → Past text (i + 1) n q.pending z →
          Kept g text z.at z.state (record { pending = z.pending; ring = q.ring }) more
      kept_next {q = q} {z = z} step written past =
          let j : i + 1 ≡ suc i = omega arith in
          let p = rw j at past in
          let t = p.at in
          let inside = p.run.inside in
          let f : Filled g (out_of g r (get_or text i 0) out) (walked held text (suc i)).done =
          rw k.reader (step_filled g text i out k.filled) in
          record {
            inside = omega arith;
            alive = p.low;
            ring = p.ring;
            reads = sym p.reads ∙ next_reads;
            reader = run_reader text (suc i) p.k q z.pending p.run (next_reader step) p.pending ∙ ap (reader_at text) (sym t);
            filled = rw (t, written) (run_filled g text (suc i) p.k _ p.run f);
          }

  -- ---- the end

  module _ (h : length text ≤ i) where
    at_end : i ≡ length text
    at_end = let l = k.inside in omega arith

    whole : read text s i (length text - i) ≡ Ok tt → finish_of r ≡ scanned_of text
    whole e =
        ap finish_of (k.reader ∙ ap (reader_at text) at_end) ∙ scan_whole text (sym k.reads ∙ e)

    other : s.at ≡ 75 → s.at ≡ 37 → ⊥
    other e f = omega arith

    pub kept_first : s.at ≡ 37 → finish_of r ≡ scanned_of text
    kept_first e = whole (rw (eq-eqb _ _ e) at (read_end text s i (length text) h))

    pub kept_second : s.at ≡ 75 → finish_of r ≡ scanned_of text
    kept_second e = whole (rw (ne_eqb _ _ (other e), eq-eqb _ _ e) at (read_end text s i (length text) h))

    pub kept_cut : (s.at ≡ 37 → ⊥) → (s.at ≡ 75 → ⊥) → Err (refused_at PolygonText i) ≡ scanned_of text
    kept_cut f g =
        scan_dead text i (sym k.reads ∙ rw (ne_eqb _ _ f, ne_eqb _ _ g) at (read_end text s i (length text) h))

    pub kept_listed : {a : Scanned} → a ≡ scanned_of text → Listed g a text out
    kept_listed is = listed g _ text out is (rw at_end at k.filled)

-- What the loop asks before a byte, and what it says at the end.
pub ruleset keeping = (kept_room, kept_first, kept_second, kept_cut, kept_listed)

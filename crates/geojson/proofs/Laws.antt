-- One byte more of a text, and the whole of it. Defined: reader_at, Filled. Proved, in order: step_reader,
-- numbers_length, numbers_append, numbers_take, filled_none, filled_more, step_filled; run_reader, run_filled (decimals
-- at once); passed_count; scan_dead, scan_whole, listed; start_reader, start_filled.
use mathlib.Core.Path.{◌≡◌, refl, sym, ap, ◌∙◌}
use mathlib.Core.Bool.{Bool, true, false, not, cond, ◌&&◌}
use mathlib.Core.List.{List, [], ◌∷◌, ◌++◌}
use Prim.Native.Nat.{ℕ, zero, suc, ◌+◌, ◌-◌, ◌*◌, ◌≤◌, ◌<◌, min}
use native.Mathlib.Omega.{arith}
use borrow.Author.Tests.{ltb-true, ltb-false, leb-true}
use lib.Dec.{ltb, leb}
use lib.IntN.{ℤ}
use lib.ListN.{length, get_or, take, drop, length-append}
use lib.Seq.{sets, sets-eq, length-sets, length-take-le, take_all, take-append-le, take_at, take-take, take-nil}
use Rattle.sphere.specs.declared.point.Grid.{Grid}
use Rattle.std.specs.declared.option.Option.{Option}
use Rattle.std.specs.declared.option.Option.TheVariants.{None, Some}
use Rattle.std.specs.declared.result.Result.TheVariants.{Ok, Err}
use Rattle.answer.specs.declared.Reason.TheVariants.{OpenRing, PolygonText, PositionDistant, PositionOutside}
use Rattle.answer.specs.Refusal.{refused_at}
use Rattle.answer.specs.Refusal.{Check}
use Rattle.answer.specs.Chain.{◌then◌, fails_if, fails_at}
use Rattle.positions.specs.Text.{start, read}
use Rattle.angles.specs.declared.point.Position.{Position}
use Rattle.positions.specs.declared.ring.Ring.{Ring}
use Rattle.positions.specs.Number.{Walk, fresh, pending_of, is_end, position_of, stepped, walked, positions_of, held}
use Rattle.positions.specs.Number.{onward, DigitRun}
use Rattle.positions.specs.declared.number.Pending.{Pending}
use Rattle.positions.proofs.Runs.{run_walked}
use Rattle.positions.specs.Ring.{added_of, check_of, is_same, ring_check, kept_of, first_of, last_of, last_after}
use Rattle.positions.specs.Ring.{empty_ring, first_outside, first_distant}
use Rattle.positions.proofs.RingLaws.{ring_of, ring_snoc, check_of_ring}
use Rattle.positions.proofs.Exact.{held_check, held_length, held_same}
use Rattle.geojson.specs.declared.scan.Reader.{Reader}
use Rattle.angles.specs.Point.{numbers_on}
use Rattle.geojson.specs.Scan.{list_on, text_check, import_check, vertices_on, put_of, step_of, out_of, finish_of}
use Rattle.geojson.specs.Scan.{Scanned, scanned_of, Listed}
use Rattle.fields.proofs.Laws.Parts.{passed_value}

-- ---- what the code keeps after i bytes

abbrev pub reader_at : List ℕ → ℕ → Reader
reader_at text i = record { pending = (walked held text i).pending; ring = ring_of (walked held text i).done }

pub step_reader : (text : List ℕ) (i : ℕ) → step_of (reader_at text i) (get_or text i 0) ≡ reader_at text (suc i)
unfolding step_of walked stepped
step_reader text i = go (walked held text i) (get_or text i 0) (is_end (walked held text i).pending (get_or text i 0))
  where
    go : (w : Walk) (b : ℕ) (t : Bool) →
        ◌≡◌ {A = Reader}
        (cond t (record { pending = fresh; ring = added_of (ring_of w.done) (position_of w.pending) })
        (record { pending = pending_of held w.pending b; ring = ring_of w.done }))
        (let n : Walk = cond t (record { pending = fresh; done = w.done ++ (position_of w.pending ∷ []) })
        (record { pending = pending_of held w.pending b; done = w.done }) in
        record { pending = n.pending; ring = ring_of n.done })
    go w b true = rw (ring_snoc w.done (position_of w.pending))
    go w b false = refl

-- ---- three numbers for each position

pub numbers_length : (g : Grid) (ps : List Position) → length (list_on g ps) ≡ length ps * 3
unfolding list_on
numbers_length g [] = refl
numbers_length g (p ∷ ps) = let e = numbers_length g ps in omega arith

pub numbers_append : (g : Grid) (ps qs : List Position) → list_on g (ps ++ qs) ≡ list_on g ps ++ list_on g qs
unfolding list_on
numbers_append g [] qs = refl
numbers_append g (p ∷ ps) qs =
    ap (λ (l : List ℤ). (numbers_on g p).x ∷ (numbers_on g p).y ∷ (numbers_on g p).z ∷ l) (numbers_append g ps qs)

pub numbers_take : (g : Grid) (n : ℕ) (ps : List Position) → list_on g (take n ps) ≡ take (n * 3) (list_on g ps)
unfolding list_on
numbers_take g zero ps = refl
numbers_take g (suc n) [] = sym (take-nil (suc n * 3))
numbers_take g (suc n) (p ∷ ps) =
    let e : suc n * 3 ≡ suc (suc (suc (n * 3))) = omega arith in
    rw e (ap (λ (l : List ℤ). (numbers_on g p).x ∷ (numbers_on g p).y ∷ (numbers_on g p).z ∷ l) (numbers_take g n ps))

-- ---- the list, filled

pub record Filled (g : Grid) (out : List ℤ) (ps : List Position) : Type 0 where
  pub size : length out ≡ 12291
  pub front : take (min (length ps) 4097 * 3) out ≡ take (min (length ps) 4097 * 3) (list_on g ps)

pub filled_none : (g : Grid) (out : List ℤ) → length out ≡ 12291 → Filled g out []
unfolding list_on
filled_none g out h = record { size = h; front = refl }

three : (g : Grid) (p : Position) → length (list_on g (p ∷ [])) ≡ 3
three g p = numbers_length g (p ∷ [])

module _ (g : Grid) (out : List ℤ) (ps : List Position) (p : Position) (f : Filled g out ps) where
  count : length (ps ++ (p ∷ [])) ≡ length ps + 1
  count = length-append ps (p ∷ [])

  filled_in : length ps < 4097 → Filled g (sets out (length ps * 3) (list_on g (p ∷ []))) (ps ++ (p ∷ []))
  filled_in h =
      let n = length ps in
      let vs = list_on g (p ∷ []) in
      let z = f.size in
      let t = three g p in
      let m : min n 4097 ≡ n = omega arith in
      let m' : min (n + 1) 4097 ≡ n + 1 = omega arith in
      let l : length (take (n * 3) out) ≡ n * 3 = length-take-le (n * 3) out (omega arith) in
      let same : take (n * 3) out ≡ list_on g ps =
      rw m at f.front ∙ take_all (n * 3) (list_on g ps) (omega (arith, numbers_length g ps)) in
      let left : take ((n + 1) * 3) (sets out (n * 3) vs) ≡ list_on g ps ++ vs =
      ap (take ((n + 1) * 3)) (sets-eq vs out (n * 3) (omega arith))
      ∙ take_at (take (n * 3) out ++ vs) (drop (n * 3 + length vs) out) ((n + 1) * 3)
      (length-append (take (n * 3) out) vs ∙ omega arith)
      ∙ ap (λ (r : List ℤ). r ++ vs) same in
      let right : take ((n + 1) * 3) (list_on g (ps ++ (p ∷ []))) ≡ list_on g ps ++ vs =
      take_all ((n + 1) * 3) (list_on g (ps ++ (p ∷ []))) (omega (arith, numbers_length g (ps ++ (p ∷ [])), count))
      ∙ numbers_append g ps (p ∷ []) in
      record {
        size = length-sets out (n * 3) vs ∙ z;
        front = rw (count, m') (left ∙ sym right);
      }

  filled_over : 4097 ≤ length ps → Filled g out (ps ++ (p ∷ []))
  filled_over h =
      let n = length ps in
      let m : min n 4097 ≡ 4097 = omega arith in
      let m' : min (n + 1) 4097 ≡ 4097 = omega arith in
      let shorter : take (4097 * 3) (list_on g (ps ++ (p ∷ []))) ≡ take (4097 * 3) (list_on g ps) =
      ap (take (4097 * 3)) (numbers_append g ps (p ∷ []))
      ∙ take-append-le (4097 * 3) (list_on g ps) (list_on g (p ∷ [])) (omega (arith, numbers_length g ps)) in
      record { size = f.size; front = rw (count, m') (rw m at f.front ∙ sym shorter) }

  pub filled_more : Filled g (put_of g out (length ps) p) (ps ++ (p ∷ []))
  unfolding put_of
  filled_more = go (ltb (length ps) 4097) refl
    where
      go : (t : Bool) → ltb (length ps) 4097 ≡ t →
          Filled g (cond t (sets out (length ps * 3) (list_on g (p ∷ []))) out) (ps ++ (p ∷ []))
      go true e = filled_in (ltb-true (length ps) 4097 e)
      go false e = filled_over (ltb-false (length ps) 4097 e)

pub step_filled : (g : Grid) (text : List ℕ) (i : ℕ) (out : List ℤ) → Filled g out (walked held text i).done →
    Filled g (out_of g (reader_at text i) (get_or text i 0) out) (walked held text (suc i)).done
unfolding out_of walked stepped
step_filled g text i out f =
    go (walked held text i) (get_or text i 0) (is_end (walked held text i).pending (get_or text i 0)) f
  where
    go : (w : Walk) (b : ℕ) (t : Bool) → Filled g out w.done →
        Filled g (cond t (put_of g out (length w.done) (position_of w.pending)) out)
        (cond {A = Walk} t (record { pending = fresh; done = w.done ++ (position_of w.pending ∷ []) })
        (record { pending = pending_of held w.pending b; done = w.done })).done
    go w b true f = filled_more g out w.done (position_of w.pending) f
    go w b false f = f

-- ---- decimals at once

pub run_reader : (text : List ℕ) (i k : ℕ) (r : Reader) (p : Pending) → DigitRun text i k → r ≡ reader_at text i →
    p ≡ onward text i r.pending k → record { pending = p; ring = r.ring } ≡ reader_at text (i + k)
run_reader text i k r p d e f =
    let w = run_walked text i k d in
    ap (λ (q : Pending). record { pending = q; ring = r.ring }) f
    ∙ ap (λ (q : Reader). record { pending = onward text i q.pending k; ring = q.ring }) e
    ∙ ap (λ (q : Walk). record { pending = q.pending; ring = ring_of q.done }) (sym w)

pub run_filled : (g : Grid) (text : List ℕ) (i k : ℕ) (out : List ℤ) → DigitRun text i k → Filled g out (walked held text i).done →
    Filled g out (walked held text (i + k)).done
run_filled g text i k out d f = rw (run_walked text i k d) f

-- ---- the end

four : (f : Option ℕ) (a b : Bool) (rest : Check) → (fails_at PositionOutside f then fails_if OpenRing (not (a && b)) then rest) ≡ Ok tt →
    a ≡ true
four (Some i) a b rest e = absurd cc
four None true b rest e = refl
four None false b rest e = absurd cc

pub passed_count : (r : Ring) → check_of r ≡ Ok tt → 4 ≤ r.count
unfolding check_of
passed_count r e =
    leb-true 4 r.count
    (four r.outside (leb 4 r.count) (is_same r.first r.last) (fails_at PositionDistant r.distant) e)

pub scan_dead : (text : List ℕ) (i : ℕ) → read text start 0 (length text) ≡ Err i → Err (refused_at PolygonText i) ≡ scanned_of text
unfolding scanned_of import_check text_check
scan_dead text i e = rw e

pub scan_whole : (text : List ℕ) → read text start 0 (length text) ≡ Ok tt →
    finish_of (reader_at text (length text)) ≡ scanned_of text
unfolding scanned_of import_check text_check finish_of
scan_whole text e =
    rw (e, check_of_ring (walked held text (length text)).done, held_check text, held_length text)

second : (a b : Check) → (a then b) ≡ Ok tt → b ≡ Ok tt
second (Ok unit) b e = e
second (Err refusal) b e = absurd cc

passed_ring : (text : List ℕ) → import_check text ≡ Ok tt → ring_check (positions_of text) ≡ Ok tt
unfolding import_check
passed_ring text e = second (text_check text) (ring_check (positions_of text)) e

kept_front : (g : Grid) (out : List ℤ) (ps : List Position) → Filled g out ps →
    take (min (length ps - 1) 4097 * 3) out ≡ take (min (length ps - 1) 4097 * 3) (list_on g (kept_of ps))
unfolding kept_of
kept_front g out ps f =
    let n = length ps in
    let m = min (n - 1) 4097 * 3 in
    let k = min n 4097 * 3 in
    let h : m ≤ k = omega arith in
    let j : m ≤ (n - 1) * 3 = omega arith in
    sym (take-take m k out h)
    ∙ ap (take m) f.front
    ∙ take-take m k (list_on g ps) h
    ∙ sym (take-take m ((n - 1) * 3) (list_on g ps) j)
    ∙ ap (take m) (sym (numbers_take g (n - 1) ps))

pub listed : (g : Grid) (s : Scanned) (text : List ℕ) (out : List ℤ) → s ≡ scanned_of text →
    Filled g out (walked held text (length text)).done → Listed g s text out
unfolding scanned_of vertices_on
listed g (Err refusal) text out e f = tt
listed g (Ok n) text out e f =
    let k = passed_value (import_check text) (sym e) in
    let is = held_same text (passed_ring text k.0) in
    rw k.1 (kept_front g out (positions_of text) (rw is at f))

-- ---- the start

pub start_reader : (text : List ℕ) → ◌≡◌ {A = Reader} (record { pending = fresh; ring = empty_ring }) (reader_at text 0)
unfolding walked first_of last_of last_after first_outside first_distant
start_reader text = refl

pub start_filled : (g : Grid) (text : List ℕ) (out : List ℤ) → length out ≡ 12291 → Filled g out (walked held text 0).done
unfolding walked
start_filled g text out h = filled_none g out h

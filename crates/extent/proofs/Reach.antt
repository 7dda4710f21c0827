-- The box of a sheet's zone. Proved, in order: box_short, box_long (the order of the checks); told_bounded, told_holds
-- (every query judged 1 or 3 lies in the box), told_range; box_kept, box_put (the buffer after the call); box_stored_lem
-- (the bytes).
use mathlib.Core.Path.{◌≡◌, refl, sym, ◌∙◌, ap}
use mathlib.Core.Logic.{◌⊎◌, ⊎_elim}
use mathlib.Core.Bool.{Bool, true, false, ◌&&◌, false≢true, true≢false}
use mathlib.Core.List.{List, ◌++◌}
use Prim.Native.Nat.{ℕ, ◌+◌, ◌≤◌, ◌<◌}
use native.Mathlib.Omega.{arith}
use borrow.Author.Tests.{lt-ltb, le-ltb}
use lib.Dec.{leb→le}
use lib.ListN.{length, drop, length-append}
use lib.Seq.{sets, sets-eq}
use Rattle.sphere.specs.declared.point.Point.{Point}
use Rattle.sphere.specs.Point.{limit_of, Within}
use Rattle.sphere.proofs.Laws.Grid.{within_more}
use lib.IntN.{ℤ}
use Rattle.std.specs.Option.{is_some, unwrap_or}
use Rattle.std.specs.declared.option.Option.{Option}
use Rattle.std.specs.declared.option.Option.TheVariants.{None, Some}
use Rattle.std.specs.declared.result.Result.TheVariants.{Ok, Err}
use Rattle.answer.specs.declared.Reason.TheVariants.{ResultRoom}
use Rattle.answer.specs.declared.Refusal.{Refusal}
use Rattle.answer.specs.Refusal.{Answer, fails}
use Rattle.answer.proofs.Laws.Chain.{failed_not_passed}
use Rattle.answer.specs.declared.Verdict.TheVariants.{Done, Inside, Outside, Boundary}
use Rattle.answer.specs.Answer.{number_of}
use Rattle.answer.specs.Buffer.{buffer_after}
use Rattle.big_endian.specs.Bytes.{point_bytes, numbers_of}
use Rattle.big_endian.proofs.Laws.Stores.{stored_on, ints_bytes-length}
use Rattle.separation.specs.Separation.{away_of}
use Rattle.separation.specs.Planes.{Behind}
use Rattle.fields.specs.Fields.{grid_of}
use Rattle.sheet.specs.Sheet.{known_of, vertices_of, second_of, sheet_check}
use Rattle.zone.specs.Judge.{sheet_answer_of}
use Rattle.extent.specs.declared.measure.Extent.{Extent}
use Rattle.extent.specs.declared.sides.Sides.{Sides}
use Rattle.separation.specs.Axes.{unit}
use Rattle.extent.specs.Sides.{InBox, whole_sides, is_fronted, box_bytes}
use Rattle.extent.specs.Extent.{is_outside, is_bounded, BoxFor, Measured, Told}
use Rattle.extent.specs.Boxes.{bounded_of, box_check, Holds, BoxAfter}
use Rattle.extent.proofs.Claims.{far_alike}
use Rattle.extent.proofs.Laws.Held.{whole_holds}

-- ---- the checks
pub box_short : (b : List ℕ) (room : ℕ) → room < 24 → box_check b room ≡ fails ResultRoom 24
unfolding box_check
box_short b room h = rw (lt-ltb room 24 h)

pub box_long : (b : List ℕ) (room : ℕ) → 24 ≤ room → box_check b room ≡ sheet_check b
unfolding box_check
box_long b room h = rw (le-ltb room 24 h)

-- ---- a zone with a box of its own
outside_two : (a : Answer) → is_outside a ≡ true → number_of a ≡ 2
outside_two (Ok (Done place)) e = absurd (false≢true e)
outside_two (Ok (Inside crossed sum)) e = absurd (false≢true e)
outside_two (Ok (Outside crossed sum)) e = refl
outside_two (Ok (Boundary edge)) e = absurd (false≢true e)
outside_two (Err refusal) e = absurd (false≢true e)

right_of : (a b : Bool) → (a && b) ≡ true → b ≡ true
right_of true b e = e
right_of false b e = absurd (false≢true e)

own_bounded : (vs : List ℤ) {bounded : Bool} (own : Option Sides) → BoxFor vs bounded own → bounded ≡ is_some own
own_bounded vs (Some s) q = q.0
own_bounded vs None q = q

module _ (b : List ℕ) (e : Extent) (t : Told b (Ok e)) where
  m : Measured (limit_of (grid_of b)) (vertices_of b) (known_of b) (second_of b) e
  m = t.1

  far : e.far ≡ sheet_answer_of b (away_of (vertices_of b))
  unfolding sheet_answer_of
  far = m.far ∙ rw t.0

  bounded : is_bounded (vertices_of b) e.far ≡ bounded_of b
  unfolding bounded_of
  bounded = ap (is_bounded (vertices_of b)) far

  pub told_bounded : bounded_of b ≡ is_some e.own
  told_bounded = sym bounded ∙ own_bounded (vertices_of b) e.own m.own

  -- a query behind a plane has the far side's number, 2
  not_behind : (P : Point) → is_bounded (vertices_of b) e.far ≡ true →
      (number_of (sheet_answer_of b P) ≡ 1) ⊎ (number_of (sheet_answer_of b P) ≡ 3) → Behind (vertices_of b) P → ⊥
  not_behind P own judged behind =
      let two = sym (ap number_of far)
      ∙ outside_two e.far (right_of (is_fronted (vertices_of b)) (is_outside e.far) own) in
      ⊎_elim (λ n. apart (number_of (sheet_answer_of b P)) (same (omega (arith, n)) ∙ two) (omega (arith, n)))
      (λ n. apart (number_of (sheet_answer_of b P)) (same (omega (arith, n)) ∙ two) (omega (arith, n))) judged
    where
      same : number_of (sheet_answer_of b P) ≤ 3 →
          number_of (sheet_answer_of b P) ≡ number_of (sheet_answer_of b (away_of (vertices_of b)))
      same h = (far_alike b behind.normal P h behind.separates).same

      apart : (n : ℕ) → n ≡ 2 → (n ≡ 2 → ⊥) → ⊥
      apart n h f = f h

  pub told_holds : Holds b (unwrap_or e.own whole_sides)
  told_holds = record { each = each e.own m.own; whole = λ h. whole e.own m.own (bounded ∙ h) }
    where
      each : (own : Option Sides) → BoxFor (vertices_of b) (is_bounded (vertices_of b) e.far) own → (P : Point) →
          (number_of (sheet_answer_of b P) ≡ 1) ⊎ (number_of (sheet_answer_of b P) ≡ 3) → InBox (unwrap_or own whole_sides) P
      each (Some s) q P judged = q.1.each P (not_behind P q.0 judged)
      each None q P judged = whole_holds P

      whole : (own : Option Sides) → BoxFor (vertices_of b) (is_bounded (vertices_of b) e.far) own →
          is_bounded (vertices_of b) e.far ≡ false → unwrap_or own whole_sides ≡ whole_sides
      whole (Some s) q h = absurd (true≢false (sym q.0 ∙ h))
      whole None q h = refl

  whole_low : Within 2147483647 whole_sides.low
  whole_low = record {
    at_x = record { within = leb→le unit 2147483647 tt };
    at_y = record { within = leb→le unit 2147483647 tt };
    at_z = record { within = leb→le unit 2147483647 tt };
  }

  whole_high : Within 2147483647 whole_sides.high
  whole_high = record {
    at_x = record { within = leb→le unit 2147483647 tt };
    at_y = record { within = leb→le unit 2147483647 tt };
    at_z = record { within = leb→le unit 2147483647 tt };
  }

  pub told_range : Within 2147483647 (unwrap_or e.own whole_sides).low × Within 2147483647 (unwrap_or e.own whole_sides).high
  told_range = go e.own m.own
    where
      go : (own : Option Sides) → BoxFor (vertices_of b) (is_bounded (vertices_of b) e.far) own →
          Within 2147483647 (unwrap_or own whole_sides).low × Within 2147483647 (unwrap_or own whole_sides).high
      go (Some s) q =
          let more = leb→le unit 2147483647 tt in
          (within_more more q.1.low_range, within_more more q.1.high_range)
      go None q = (whole_low, whole_high)

-- ---- the buffer after the call
pub box_kept : (b before : List ℕ) {refusal : Refusal} → box_check b (length before) ≡ Err refusal → BoxAfter b before before
box_kept b before e = record {
  sides = whole_sides;
  holds = λ ok. failed_not_passed (sym e ∙ ok);
  same = rw e;
}

pub box_put : (b before after : List ℕ) {e : Extent} {s : Sides} → Told b (Ok e) → 24 ≤ length before →
    s ≡ unwrap_or e.own whole_sides → after ≡ buffer_after (Ok tt) (box_bytes s) before → BoxAfter b before after
box_put b before after {e} {s} t room box same = record {
  sides = s;
  holds = λ _. rw box (told_holds b e t);
  same = rw (box_long b (length before) room ∙ t.0) same;
}

-- ---- the bytes
point_length : (p : Point) → length (point_bytes p) ≡ 12
point_length p = ints_bytes-length (numbers_of p)

pub box_stored_lem : (s : Sides) (buffer : List ℕ) → 24 ≤ length buffer →
    sets (sets buffer 0 (point_bytes s.low)) 12 (point_bytes s.high) ≡ buffer_after (Ok tt) (box_bytes s) buffer
box_stored_lem s buffer h =
    let low = point_bytes s.low in
    let high = point_bytes s.high in
    let n : length (low ++ high) ≡ 24 =
    length-append low high ∙ omega (arith, point_length s.low, point_length s.high) in
    let z : 0 + length (low ++ high) ≡ length (low ++ high) = omega arith in
    stored_on buffer 0 12 low high (omega (arith, point_length s.low))
    ∙ sets-eq (low ++ high) buffer 0 (omega (arith, n, h))
    ∙ ap (λ (k : ℕ). (low ++ high) ++ drop k buffer) z

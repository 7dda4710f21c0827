-- The claims of specs/Claims, proved.
-- Proved, in order: read_never_ten, sheet_size, read_writes_back, written_reads_back. The octant's sheets
-- are in proofs/Octant, mixed grids in proofs/Mixed, 25 in proofs/Short.
use mathlib.Core.Path.{◌≡◌, refl, sym, ap, ◌∙◌}
use mathlib.Core.Bool.{Bool, true, false, cond}
use mathlib.Core.List.{List, [], ◌∷◌, ◌++◌, append-nil}
use Prim.Native.Nat.{ℕ, ◌+◌, ◌≤◌}
use native.Mathlib.Omega.{arith}
use borrow.Author.Tests.{ltb-false, le-ltb, not-false}
use lib.ListN.{length, drop}
use lib.Seq.{take_at, drop-length}
use Rattle.sphere.specs.declared.point.Point.{Point}
use Rattle.sphere.specs.declared.point.Grid.{Grid}
use Rattle.sphere.specs.declared.point.Grid.TheVariants.{Coarse, Fine}
use Rattle.sphere.specs.Point.{limit_of, is_null}
use Rattle.std.specs.declared.result.Result.TheVariants.{Ok, Err}
use Rattle.answer.specs.declared.Reason.TheVariants.{Charset, TrailingBytes}
use Rattle.answer.specs.declared.Verdict.TheVariants.{Done}
use Rattle.answer.specs.Refusal.{Check}
use Rattle.answer.specs.Answer.{number_of, answer_after}
use Rattle.polygon.specs.Pair.{optional_check}
use Rattle.answer.proofs.Laws.Chain.{here_passed, then_passed}
use Rattle.polygon.proofs.Laws.Checks.{accepted_some}
use Rattle.polygon.specs.Grids.{is_mixed, grid_check, grid_of_second}
use Rattle.polygon.specs.GridClaims.{on}
use Rattle.polygon.proofs.Laws.Pair.{optional_first, second_passed}
use Rattle.fields.specs.Fields.{is_allowed, is_charset, field_check, charset_start, name_start, grid_of, second_start}
use Rattle.fields.specs.Fields.{has_second_point, sheet_end, charset_check, five_fields, sheet_fields, rest_check, fields_check}
use Rattle.answer.proofs.Laws.Numbers.{Numbered}
use Rattle.sheet.specs.Sheet.{charset_of, name_of, known_of, vertices_of, second_of, sheet_check, read_after, read_of}
use Rattle.sheet.specs.Write.{bytes_needed, input_check, write_check, write_of, written_to}
use Rattle.sheet.specs.Claims.{WrittenReadsBack, ReadWritesBack, ReadNeverTen, SheetSize}
use Rattle.fields.proofs.Laws.Fields.{passed_field, passed_fields, passed_spans, five_passed, end_absent, end_present}
use Rattle.fields.proofs.Laws.Fields.{end_within}
use Rattle.sheet.proofs.Laws.Accepted.{list_check_lem}
use Rattle.sheet.proofs.Laws.Stores.{sheet_bytes-length}
use Rattle.sheet.proofs.Laws.Second.{size_kept, second_kept}
use Rattle.sheet.proofs.Laws.Kept.{name_of_length, vertices_of-length, sheet_kept}
use Rattle.sheet.proofs.Laws.Written.{reads_as}
use Rattle.sheet.proofs.Laws.Reads.{second_present, sheet_second, sheet_plain, sheet_fields_lem, sheet_sound}
use Rattle.sheet.proofs.Laws.Reads.{sheet_optional, read_accepted}
use Rattle.sheet.proofs.Laws.Writes.{passed_writable}
use Rattle.sheet.proofs.Laws.Numbers.{Above, above_sheet, above_write}

-- ---- success is told by its number
read_passed : (b : List ℕ) (c : Check) → Numbered (Above 10) c → number_of (read_after c b).answer ≡ 0 → c ≡ Ok tt
read_passed b (Ok unit) h e = refl
read_passed b (Err refusal) h e = absurd (omega (arith, h.each refusal refl))

pub read_done : (b : List ℕ) → number_of (read_of b).answer ≡ 0 → sheet_check b ≡ Ok tt
unfolding read_of
read_done b e = read_passed b (sheet_check b) (above_sheet b) e

-- ---- the two small claims
not_ten : (b : List ℕ) (c : Check) → Numbered (Above 10) c → number_of (read_after c b).answer ≡ 10 → ⊥
not_ten b (Ok unit) h e = omega arith
not_ten b (Err refusal) h e = omega (arith, h.each refusal refl)

pub read_never_ten : ReadNeverTen
unfolding read_of
read_never_ten b e = not_ten b (sheet_check b) (above_sheet b) e

-- An accepted sheet: its fields are sound, they end where it ends, and its points are accepted.
pub record Accepted (b : List ℕ) : Type 0 where
  pub sound : sheet_fields b ≡ Ok tt
  pub ends : length b ≡ sheet_end b
  pub points : optional_check (limit_of (grid_of b)) (vertices_of b) (known_of b) (second_of b) ≡ Ok tt
  pub some : has_second_point b ≡ true → is_null (second_of b) ≡ false

module _ (b : List ℕ) (e : sheet_check b ≡ Ok tt) where
  no_rest : length b ≤ sheet_end b
  unfolding fields_check rest_check
  no_rest =
      let rest = (then_passed (sheet_fields b) (rest_check b) (sheet_fields_lem b e)).1 in
      ltb-false (sheet_end b) (length b) (here_passed TrailingBytes (sheet_end b) _ rest)

  pub second_some : has_second_point b ≡ true → is_null (second_of b) ≡ false
  second_some has =
      let beside = sym (sheet_second b (sheet_plain b e)) ∙ e in
      let passed = sym (second_present b has).1 ∙ beside in
      let second = second_passed (limit_of (grid_of b)) (vertices_of b) (known_of b) (second_of b) passed in
      accepted_some (limit_of (grid_of b)) (vertices_of b) (second_of b) second.accepted

  pub accepted : Accepted b
  accepted =
      let within = end_within b (sheet_sound b e) in
      record {
        sound = sheet_sound b e;
        ends = omega (arith, no_rest, within);
        points = sheet_optional b e;
        some = second_some;
      }

  end_bound : sheet_end b ≤ second_start b + 15
  end_bound = go (has_second_point b) refl
    where
      go : (t : Bool) → has_second_point b ≡ t → sheet_end b ≤ second_start b + 15
      go true has = omega (arith, end_present b has)
      go false has = omega (arith, end_absent b has)

pub sheet_size : SheetSize
sheet_size b e =
    let done = read_done b e in
    let a = accepted b done in
    let s = passed_spans b (five_passed b a.sound) in
    (omega arith, omega (arith, a.ends, end_bound b done))

-- ---- what is read writes back

-- A sheet's points are on one grid.
pub one_grid : (g : Grid) (Y : Point) → is_mixed g (g ∷ grid_of_second g (on g Y) ∷ []) ≡ false
one_grid g Y = go g (is_null Y)
  where
    go : (g : Grid) (none : Bool) → is_mixed g (g ∷ cond none g g ∷ []) ≡ false
    go Coarse true = refl
    go Coarse false = refl
    go Fine true = refl
    go Fine false = refl

module _ (b : List ℕ) (a : Accepted b) where
  pub five : five_fields b ≡ Ok tt
  five = five_passed b a.sound

  pub coded : is_charset (charset_of b) ≡ true
  unfolding charset_check
  coded =
      let f = field_check 2 (is_allowed 1 1 1) b charset_start in
      not-false _ (here_passed Charset charset_start _ (then_passed f _ (passed_fields b five).charset).1)

  pub named : is_allowed 1 120 1 (length (name_of b)) ≡ true
  named =
      ap (is_allowed 1 120 1) (name_of_length b five)
      ∙ (passed_field 3 (is_allowed 1 120 1) b name_start (passed_fields b five).name).allowed

  needed : bytes_needed (name_of b) (vertices_of b) (second_of b) ≡ length b
  needed =
      let s = passed_spans b five in
      let k = size_kept b a.sound a.ends a.some in
      omega (arith, name_of_length b five, vertices_of-length b five)

  kept_check :
      (room : ℕ) → room ≡ length b →
      let g = grid_of b in
      write_check (charset_of b) (name_of b) (on g (known_of b)) g (vertices_of b) (on g (second_of b)) room ≡ Ok tt
  unfolding write_check input_check grid_check
  kept_check room e =
      let n = bytes_needed (name_of b) (vertices_of b) (second_of b) in
      let limit = limit_of (grid_of b) in
      let first = optional_first limit (vertices_of b) (known_of b) (second_of b) a.points in
      let list = list_check_lem limit (vertices_of b) (known_of b) first in
      rw (coded, named, list, one_grid (grid_of b) (second_of b), a.points, le-ltb room n (omega (arith, needed)))

pub read_writes_back : ReadWritesBack
unfolding write_of written_to
read_writes_back b buffer are e n =
    let done = read_done b e in
    let a = accepted b done in
    let c = kept_check b a (length buffer) n in
    let kept = sheet_kept b (five b a) are (second_kept b a.sound a.ends a.some are) in
    let rest : drop (length b) buffer ≡ [] = rw (sym n) (drop-length buffer) in
    rw (read_accepted b done, c)
    (ap (λ (n : ℕ). Ok (Done n)) (needed b a), rw kept (ap (λ (l : List ℕ). b ++ l) rest ∙ append-nil b))

-- ---- what is written reads back

write_passed : (c : Check) (place : ℕ) → Numbered (Above 9) c → number_of (answer_after c (Ok (Done place))) ≡ 0 → c ≡ Ok tt
write_passed (Ok unit) place h e = refl
write_passed (Err refusal) place h e = absurd (omega (arith, h.each refusal refl))

pub written_reads_back : WrittenReadsBack
unfolding write_of written_to write_check
written_reads_back zone charset name known g vertices second buffer small e =
    let room = length buffer in
    let c : write_check charset name known g vertices second room ≡ Ok tt =
    write_passed (write_check charset name known g vertices second room) _
    (above_write charset name known g vertices second room) e in
    let input = (then_passed (input_check charset name known g vertices second) _ c).0 in
    let w = passed_writable charset name known g vertices second zone small input in
    let size = sheet_bytes-length zone charset name known.point g vertices second.point in
    rw c (reads_as zone charset name known.point g vertices second.point w _ (take_at _ _ _ size))

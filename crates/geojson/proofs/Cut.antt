-- A list of over 4,096 vertices is refused by 10, however long it is: the writer's answer for the first 4,097 of them
-- is its answer for all. Proved, in order: write_long, cut_answer, cut_buffer.
use mathlib.Core.Path.{◌≡◌, refl, ◌∙◌}
use mathlib.Core.Bool.{Bool, true, false, not, ◌&&◌}
use mathlib.Core.List.{List}
use Prim.Native.Nat.{ℕ, ◌*◌, ◌/◌, ◌%◌, ◌≤◌, ◌<◌, min}
use native.Mathlib.Omega.{arith}
use borrow.Author.Tests.{lt-leb, leb-true, leb-false}
use lib.Dec.{eqb, leb, ltb}
use lib.IntN.{ℤ}
use lib.ListN.{length, take}
use lib.Seq.{length-take-le, take_all}
use Rattle.sphere.specs.declared.point.Point.{Point}
use Rattle.sphere.specs.declared.point.Grid.{Grid}
use Rattle.std.specs.declared.result.Result.TheVariants.{Ok, Err}
use Rattle.answer.specs.declared.Reason.TheVariants.{Charset, FieldLength, SheetRoom, VertexList}
use Rattle.answer.specs.declared.Refusal.{Refusal}
use Rattle.answer.specs.Refusal.{Check, refused_at, fails}
use Rattle.answer.specs.Chain.{◌then◌, fails_if, fails_here}
use Rattle.polygon.specs.Checks.{list_check}
use Rattle.polygon.specs.Grids.{grid_check}
use Rattle.polygon.specs.Pair.{no_second}
use Rattle.polygon.specs.GridClaims.{on}
use Rattle.fields.specs.Fields.{is_charset, is_name_length}
use Rattle.geojson.specs.Import.{plain_write_of, plain_written_to}
use Rattle.sheet.specs.Write.{bytes_needed, input_check, write_check, write_of, written_to}

-- What the writer says of a list that is too long.
abbrev too_long : ℕ → List ℕ → Check
too_long charset name =
    fails_if Charset (not (is_charset charset)) then fails_if FieldLength (not (is_name_length (length name))) then fails VertexList 0

last_false : (a b c : Bool) → c ≡ false → (a && (b && c)) ≡ false
last_false true true c e = e
last_false true false c e = refl
last_false false b c e = refl

stays : (a b rest : Check) → ((a then b then fails VertexList 0) then rest) ≡ (a then b then fails VertexList 0)
stays (Ok first) (Ok second) rest = refl
stays (Ok unit) (Err refusal) rest = refl
stays (Err refusal) b rest = refl

record Refused (c : Check) : Type 0 where
  refusal : Refusal
  is : c ≡ Err refusal

refuses : (a b : Check) → Refused (a then b then fails VertexList 0)
refuses (Ok first) (Ok second) = record { refusal = refused_at VertexList 0; is = refl }
refuses (Ok unit) (Err refusal) = record { refusal = refusal; is = refl }
refuses (Err refusal) b = record { refusal = refusal; is = refl }

module _ (g : Grid) (charset : ℕ) (name : List ℕ) (known : Point) where
  input_long : (vs : List ℤ) → 4096 < length vs / 3 → input_check charset name (on g known) g vs
      (on g no_second) ≡ too_long charset name
  unfolding input_check grid_check list_check
  input_long vs h =
      rw (last_false (eqb (length vs % 3) 0) (leb 3 (length vs / 3)) (leb (length vs / 3) 4096) (lt-leb _ _ h))

  pub write_long : (vs : List ℤ) (room : ℕ) → 4096 < length vs / 3 →
      write_check charset name (on g known) g vs (on g no_second) room ≡ too_long charset name
  unfolding write_check
  write_long vs room h =
      rw (input_long vs h)
      (stays (fails_if Charset (not (is_charset charset))) (fails_if FieldLength (not (is_name_length (length name))))
      (fails_here SheetRoom (bytes_needed name vs no_second) (ltb room (bytes_needed name vs no_second))))

  refused : Refused (too_long charset name)
  refused = refuses (fails_if Charset (not (is_charset charset))) (fails_if FieldLength (not (is_name_length (length name))))

  failed : (vs : List ℤ) (room : ℕ) → 4096 < length vs / 3 →
      write_check charset name (on g known) g vs (on g no_second) room ≡ Err refused.refusal
  failed vs room h = write_long vs room h ∙ refused.is

  same_answer : (vs ws : List ℤ) (room : ℕ) → 4096 < length vs / 3 → 4096 < length ws / 3 →
      plain_write_of g charset name known vs room
      ≡ plain_write_of g charset name known ws room
  unfolding write_of
  same_answer vs ws room g h = rw (failed vs room g, failed ws room h)

  same_buffer : (zone : ℕ) (vs ws : List ℤ) (buffer : List ℕ) → 4096 < length vs / 3 → 4096 < length ws / 3 →
      plain_written_to g zone charset name known vs buffer
      ≡ plain_written_to g zone charset name known ws buffer
  unfolding written_to
  same_buffer zone vs ws buffer g h = rw (failed vs (length buffer) g, failed ws (length buffer) h)

  module _ (n : ℕ) (vs : List ℤ) (is : length vs ≡ n * 3) where
    whole : n ≤ 4097 → take (min n 4097 * 3) vs ≡ vs
    whole h = take_all (min n 4097 * 3) vs (omega arith)

    long : 4097 < n → 4096 < length (take (min n 4097 * 3) vs) / 3
    long h = let l = length-take-le (min n 4097 * 3) vs (omega arith) in omega arith

    pub cut_answer : (room : ℕ) →
        plain_write_of g charset name known (take (min n 4097 * 3) vs) room
        ≡ plain_write_of g charset name known vs room
    cut_answer room = go (leb n 4097) refl
      where
        go : (t : Bool) → leb n 4097 ≡ t →
            plain_write_of g charset name known (take (min n 4097 * 3) vs) room
            ≡ plain_write_of g charset name known vs room
        go true e = rw (whole (leb-true n 4097 e))
        go false e =
            let h = leb-false n 4097 e in
            same_answer (take (min n 4097 * 3) vs) vs room (long h) (omega arith)

    pub cut_buffer : (zone : ℕ) (buffer : List ℕ) →
        plain_written_to g zone charset name known (take (min n 4097 * 3) vs) buffer
        ≡ plain_written_to g zone charset name known vs buffer
    cut_buffer zone buffer = go (leb n 4097) refl
      where
        go : (t : Bool) → leb n 4097 ≡ t →
            plain_written_to g zone charset name known (take (min n 4097 * 3) vs) buffer
            ≡ plain_written_to g zone charset name known vs buffer
        go true e = rw (whole (leb-true n 4097 e))
        go false e =
            let h = leb-false n 4097 e in
            same_buffer zone (take (min n 4097 * 3) vs) vs buffer (long h) (omega arith)

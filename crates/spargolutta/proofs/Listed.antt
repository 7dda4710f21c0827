-- Vertices that C hands over. Proved, in order: decoded_front, decoded_room (what decoding leaves in the scratch space);
-- list_none, list_long (lists that line 10 refuses); alike_refused (such lists are written alike), alike_listed (what is
-- decoded of the bytes is written as they are).
use mathlib.Core.Path.{◌≡◌, refl, ap, ◌∙◌}
use mathlib.Core.Bool.{Bool, true, false, not, ◌&&◌, cond, and-false}
use mathlib.Core.List.{List, [], ◌++◌}
use Prim.Native.Nat.{ℕ, ◌*◌, ◌/◌, ◌%◌, ◌≤◌, ◌<◌}
use native.Mathlib.Omega.{arith}
use borrow.Author.Tests.{lt-leb, leb-false, eqb-true}
use lib.Dec.{leb, eqb}
use lib.IntN.{ℤ}
use lib.ListN.{length, take, length-append}
use lib.Seq.{take_at}
use Rattle.sphere.specs.declared.point.Grid.{Grid}
use Rattle.sphere.specs.declared.point.GridPoint.{GridPoint}
use Rattle.big_endian.specs.Bytes.{ints_at}
use Rattle.big_endian.proofs.Laws.Rows.{ints_at-length}
use Rattle.std.specs.declared.result.Result.TheVariants.{Ok, Err}
use Rattle.answer.specs.declared.Reason.TheVariants.{Charset, FieldLength, VertexList}
use Rattle.answer.specs.declared.Refusal.{Refusal}
use Rattle.answer.specs.Refusal.{Check, fails, refused_at}
use Rattle.answer.specs.Chain.{◌then◌, fails_if}
use Rattle.polygon.specs.Checks.{list_check}
use Rattle.polygon.specs.Grids.{grid_check}
use Rattle.fields.specs.Fields.{is_charset, is_name_length}
use Rattle.sheet.specs.Write.{input_check, write_check, write_of, written_to}
use Rattle.spargolutta.specs.Outline.{outline_of}
use Rattle.spargolutta.specs.Writing.{listed_of, list_size}

-- n numbers decoded, and what stood behind them.
module _ (b : List ℕ) (n : ℕ) (rest : List ℤ) {left : List ℤ} (e : left ≡ ints_at b 0 n ++ rest) where
  pub decoded_front : take n left ≡ ints_at b 0 n
  decoded_front = ap (take n) e ∙ take_at (ints_at b 0 n) rest _ (ints_at-length b 0 n)

  pub decoded_room : n ≤ length left
  decoded_room = omega (arith, ap length e ∙ length-append (ints_at b 0 n) rest, ints_at-length b 0 n)

pub list_none : list_check [] ≡ fails VertexList 0
unfolding list_check
list_none = refl

-- Over 4,096 vertices.
pub list_long : (vs : List ℤ) → 4096 < length vs / 3 → list_check vs ≡ fails VertexList 0
unfolding list_check
list_long vs h =
    rw (lt-leb (length vs / 3) 4096 h, and-false (leb 3 (length vs / 3)), and-false (eqb (length vs % 3) 0))

record Refused (c : Check) : Type 0 where
  pub refusal : Refusal
  pub is : c ≡ Err refusal

refused : (a b : Check) → Refused (a then b then fails VertexList 0)
refused (Err first) b = record { refusal = first; is = refl }
refused (Ok unit) (Err second) = record { refusal = second; is = refl }
refused (Ok one) (Ok two) = record { refusal = refused_at VertexList 0; is = refl }

module _ (charset : ℕ) (name : List ℕ) (known : GridPoint) (g : Grid) (second : GridPoint) where
  pub record Alike (vs ws : List ℤ) : Type 0 where
    pub answers : (room : ℕ) → write_of charset name known g vs second room ≡ write_of charset name known g ws second room
    pub buffers : (zone : ℕ) (buffer : List ℕ) →
        written_to zone charset name known g vs second buffer ≡ written_to zone charset name known g ws second buffer

  ten : (vs : List ℤ) → list_check vs ≡ fails VertexList 0 →
      input_check charset name known g vs second
      ≡ fails_if Charset (not (is_charset charset)) then fails_if FieldLength (not (is_name_length (length name))) then fails VertexList 0
  unfolding input_check grid_check
  ten vs e = rw e

  pub alike_refused : (vs ws : List ℤ) → list_check vs ≡ fails VertexList 0 → list_check ws ≡ fails VertexList 0 → Alike vs ws
  unfolding write_of written_to write_check
  alike_refused vs ws e f =
      let r = refused (fails_if Charset (not (is_charset charset))) (fails_if FieldLength (not (is_name_length (length name)))) in
      let v = ten vs e ∙ r.is in
      let w = ten ws f ∙ r.is in
      record { answers = λ room. rw (v, w); buffers = λ zone buffer. rw (v, w) }

  pub alike_listed : (b : List ℕ) → Alike (ints_at b 0 (list_size (length b))) (listed_of b)
  unfolding listed_of ints_at
  alike_listed b = go (eqb (length b % 12) 0) refl (leb (length b) 49152) refl
    where
      go : (t : Bool) → eqb (length b % 12) 0 ≡ t → (u : Bool) → leb (length b) 49152 ≡ u →
          Alike (ints_at b 0 (cond (t && u) (length b / 12 * 3) 0)) (cond t (outline_of b) [])
      go false e u f = record { answers = λ room. refl; buffers = λ zone buffer. refl }
      go true e true f = record { answers = λ room. refl; buffers = λ zone buffer. refl }
      go true e false f =
          let whole = eqb-true (length b % 12) 0 e in
          let more = leb-false (length b) 49152 f in
          let size = ints_at-length b 0 (length b / 12 * 3) in
          alike_refused [] (outline_of b) list_none (list_long (outline_of b) (omega (arith, size)))

-- A sheet that was read, written: each field is stored as it stood.
-- Proved, in order: name_of_length, vertices_of-length, sheet_kept.
use mathlib.Core.Path.{◌≡◌, sym, ap, ◌∙◌}
use mathlib.Core.List.{List, [], ◌∷◌, ◌++◌}
use Prim.Native.Nat.{ℕ, ◌+◌, ◌*◌}
use native.Mathlib.Omega.{arith}
use lib.ListN.{length, drop, length-drop, take-append-drop}
use lib.Seq.{drop-cons, drop-drop, length-take-le}
use Rattle.big_endian.specs.Bytes.{short_at, word_bytes, ints_bytes, numbers_of, point_bytes, AreBytes}
use Rattle.big_endian.proofs.Laws.Rows.{ints_at-length}
use Rattle.big_endian.proofs.Laws.Stores.{ints_bytes-length}
use Rattle.big_endian.proofs.Laws.Kept.{word_kept, ints_kept, point_kept}
use Rattle.fields.specs.Fields.{charset_start, name_start, known_start, vertices_start, grid_of, tag_of, second_start}
use Rattle.fields.specs.Fields.{five_fields}
use Rattle.sheet.specs.Sheet.{zone_of, charset_of, name_at, name_length, name_of, known_of, vertex_count_of, vertices_of}
use Rattle.sheet.specs.Sheet.{second_of}
use Rattle.sheet.specs.Write.{field_bytes, second_bytes, sheet_bytes}
use Rattle.fields.proofs.Laws.Fields.{passed_field, passed_fields, passed_spans, allowed_bounds, charset_field}
use Rattle.sheet.proofs.Laws.Stores.{word_bytes_length}
use Rattle.sheet.proofs.Laws.Bodies.{field_kept}
use Rattle.std.specs.declared.result.Result.TheVariants.{Ok}

module _ (b : List ℕ) (sound : five_fields b ≡ Ok tt) where
  pub name_of_length : length (name_of b) ≡ name_length b
  name_of_length =
      let s = passed_spans b sound in
      length-take-le (name_length b) (drop name_at b) (omega (arith, length-drop name_at b))

  pub vertices_of-length : length (vertices_of b) * 4 ≡ short_at b (vertices_start b + 1)
  vertices_of-length =
      let s = passed_spans b sound in
      omega (arith, ints_at-length b (vertices_start b + 3) (vertex_count_of b * 3))

  module _ (are : AreBytes b) where
    vertices-kept : drop (vertices_start b) b
        ≡ field_bytes (tag_of (grid_of b)) (ints_bytes (vertices_of b)) ++ drop (second_start b) b
    vertices-kept =
        let s = passed_spans b sound in
        let f = passed_field (tag_of (grid_of b)) _ b (vertices_start b) (passed_fields b sound).vertices in
        let n = vertex_count_of b * 3 in
        let row = ints_kept b are n (vertices_start b + 3) (omega arith) in
        let e : vertices_start b + 3 + n * 4 ≡ second_start b = omega arith in
        let size = sym vertices_of-length ∙ sym (ints_bytes-length (vertices_of b)) in
        field_kept b are (vertices_start b) (tag_of (grid_of b)) (ints_bytes (vertices_of b)) _ f.head f.tagged size
        (row ∙ ap (λ (k : ℕ). ints_bytes (vertices_of b) ++ drop k b) e)

    known_kept : drop (known_start b) b ≡ field_bytes 4 (point_bytes (known_of b)) ++ drop (vertices_start b) b
    known_kept =
        let s = passed_spans b sound in
        let f = passed_field 4 _ b (known_start b) (passed_fields b sound).known in
        let a = allowed_bounds 12 12 1 _ f.allowed in
        let e : known_start b + 3 + 12 ≡ vertices_start b = omega arith in
        let size = ints_bytes-length (numbers_of (known_of b)) in
        field_kept b are (known_start b) 4 (point_bytes (known_of b)) (drop (vertices_start b) b)
        f.head f.tagged (omega arith)
        (point_kept b are (known_start b + 3) (omega arith)
        ∙ ap (λ (k : ℕ). point_bytes (known_of b) ++ drop k b) e)

    name-kept : drop name_start b ≡ field_bytes 3 (name_of b) ++ drop (known_start b) b
    name-kept =
        let s = passed_spans b sound in
        let f = passed_field 3 _ b name_start (passed_fields b sound).name in
        let e : name_at + name_length b ≡ known_start b = sym s.known_at in
        field_kept b are name_start 3 (name_of b) (drop (known_start b) b) f.head f.tagged (sym name_of_length)
        (sym (take-append-drop (name_length b) (drop name_at b))
        ∙ ap (λ (l : List ℕ). name_of b ++ l) (drop-drop (name_length b) name_at b ∙ ap (λ (k : ℕ). drop k b) e))

    charset-kept : drop charset_start b ≡ field_bytes 2 (charset_of b ∷ []) ++ drop name_start b
    charset-kept =
        let s = passed_spans b sound in
        let f = passed_field 2 _ b charset_start (charset_field b (passed_fields b sound).charset) in
        let a = allowed_bounds 1 1 1 _ f.allowed in
        field_kept b are charset_start 2 (charset_of b ∷ []) (drop name_start b) f.head f.tagged (omega arith)
        (drop-cons b 10 0 (omega arith))

    zone-kept : b ≡ field_bytes 1 (word_bytes (zone_of b)) ++ drop charset_start b
    zone-kept =
        let s = passed_spans b sound in
        let f = passed_field 1 _ b 0 (passed_fields b sound).zone in
        let a = allowed_bounds 4 4 1 _ f.allowed in
        let size = word_bytes_length (zone_of b) in
        field_kept b are 0 1 (word_bytes (zone_of b)) (drop charset_start b) f.head f.tagged (omega arith)
        (word_kept b are 3 (omega arith))

    -- The sheet's parts, written, are its bytes.
    pub sheet_kept : drop (second_start b) b ≡ second_bytes (second_of b) →
        sheet_bytes (zone_of b) (charset_of b) (name_of b) (known_of b) (grid_of b) (vertices_of b) (second_of b) ≡ b
    unfolding sheet_bytes
    sheet_kept last =
        sym (zone-kept
        ∙ ap (λ (l : List ℕ). field_bytes 1 (word_bytes (zone_of b)) ++ l) (charset-kept
        ∙ ap (λ (l : List ℕ). field_bytes 2 (charset_of b ∷ []) ++ l) (name-kept
        ∙ ap (λ (l : List ℕ). field_bytes 3 (name_of b) ++ l) (known_kept
        ∙ ap (λ (l : List ℕ). field_bytes 4 (point_bytes (known_of b)) ++ l) (vertices-kept
        ∙ ap (λ (l : List ℕ). field_bytes (tag_of (grid_of b)) (ints_bytes (vertices_of b)) ++ l) last)))))

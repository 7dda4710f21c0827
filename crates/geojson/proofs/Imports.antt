-- How importing ends. Proved, in order: scan_refused, import_refused, buffer_refused; kept, kept_length,
-- import_kept, buffer_kept.
use mathlib.Core.Path.{◌≡◌, sym, ap, ◌∙◌}
use mathlib.Core.List.{List}
use Prim.Native.Nat.{ℕ, ◌-◌, ◌*◌, min}
use native.Mathlib.Omega.{arith}
use lib.IntN.{ℤ}
use lib.ListN.{length, take}
use lib.Seq.{length-take-le}
use Rattle.sphere.specs.declared.point.Point.{Point}
use Rattle.sphere.specs.declared.point.Grid.{Grid}
use Rattle.std.specs.declared.result.Result.TheVariants.{Ok, Err}
use Rattle.answer.specs.declared.Refusal.{Refusal}
use Rattle.positions.specs.Number.{positions_of}
use Rattle.positions.specs.Ring.{kept_of}
use Rattle.fields.proofs.Laws.Parts.{passed_value, refused_value}
use Rattle.geojson.specs.Scan.{import_check, vertices_on, scanned_of}
use Rattle.geojson.specs.Import.{plain_write_of, plain_written_to, import_on, imported_on}
use Rattle.geojson.proofs.Laws.{numbers_length}
use Rattle.geojson.proofs.Cut.{cut_answer, cut_buffer}

module _ (g : Grid) (text : List ℕ) {refusal : Refusal} (e : scanned_of text ≡ Err refusal) where
  scan_refused : import_check text ≡ Err refusal
  unfolding scanned_of
  scan_refused = refused_value (import_check text) (length (positions_of text) - 1) e

  pub import_refused : (charset : ℕ) (name : List ℕ) (known : Point) (room : ℕ) →
      Err refusal ≡ import_on g text charset name known room
  unfolding import_on
  import_refused charset name known room = rw scan_refused

  pub buffer_refused : (zone charset : ℕ) (name : List ℕ) (known : Point) (buffer : List ℕ) →
      buffer ≡ imported_on g zone text charset name known buffer
  unfolding imported_on
  buffer_refused zone charset name known buffer = rw scan_refused

module _ (g : Grid) (text : List ℕ) {n : ℕ} (e : scanned_of text ≡ Ok n) where
  kept : (import_check text ≡ Ok tt) × (n ≡ length (positions_of text) - 1)
  unfolding scanned_of
  kept = passed_value (import_check text) e

  kept_length : length (vertices_on g text) ≡ n * 3
  unfolding vertices_on kept_of
  kept_length =
      let ps = positions_of text in
      let l = length-take-le (length ps - 1) ps (omega arith) in
      numbers_length g (kept_of ps) ∙ ap (λ (k : ℕ). k * 3) (l ∙ sym kept.1)

  -- The list's front, as `Listed` has it.
  module _ (front : List ℤ) (is : front ≡ take (min n 4097 * 3) (vertices_on g text)) where
    pub import_kept : (charset : ℕ) (name : List ℕ) (known : Point) (room : ℕ) →
        plain_write_of g charset name known front room ≡ import_on g text charset name known room
    unfolding import_on
    import_kept charset name known room =
        rw (is, kept.0) (cut_answer g charset name known n (vertices_on g text) kept_length room)

    pub buffer_kept : (zone charset : ℕ) (name : List ℕ) (known : Point) (buffer : List ℕ) →
        plain_written_to g zone charset name known front buffer ≡ imported_on g zone text charset name known buffer
    unfolding imported_on
    buffer_kept zone charset name known buffer =
        rw (is, kept.0) (cut_buffer g charset name known n (vertices_on g text) kept_length zone buffer)

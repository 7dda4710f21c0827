-- The bytes of a sheet, read: each field is found where it was written. Proved, in order: zone_written,
-- charset_written, name_written, known_written, grid_written, count_written, vertices_written, fields_written (its
-- fields pass), second_back, reads_as (reading hands back its parts).
use mathlib.Core.Path.{◌≡◌, refl, ap, ◌∙◌}
use mathlib.Core.Bool.{Bool, true, false, cond}
use mathlib.Core.List.{List, [], ◌∷◌, ◌++◌}
use Prim.Native.Nat.{ℕ, ◌+◌, ◌*◌, ◌≤◌, ◌<◌}
use native.Mathlib.Omega.{arith}
use borrow.Author.Tests.{le-ltb}
use lib.Dec.{eqb}
use lib.IntN.{ℤ}
use lib.ListN.{length, drop}
use lib.Seq.{take_at}
use Rattle.sphere.specs.declared.point.Point.{Point}
use Rattle.sphere.specs.declared.point.Grid.{Grid}
use Rattle.sphere.specs.declared.point.Grid.TheVariants.{Coarse, Fine}
use Rattle.sphere.specs.Point.{limit_of, Within, is_null}
use Rattle.big_endian.specs.Bytes.{short_at, word_bytes, ints_bytes, numbers_of, point_bytes}
use Rattle.big_endian.proofs.Laws.Written.{first_written, word_written, ints_written, point_written}
use Rattle.big_endian.proofs.Laws.Stores.{ints_bytes-length}
use Rattle.polygon.specs.Vertices.{vertices_count}
use Rattle.polygon.specs.Checks.{accept_check}
use Rattle.polygon.specs.Pair.{optional_check}
use Rattle.polygon.proofs.Laws.Pair.{optional_first, optional_check_lem}
use Rattle.fields.specs.Fields.{is_allowed, is_charset, field_end, charset_start, name_start, known_start, vertices_start}
use Rattle.fields.specs.Fields.{grid_at, grid_of, tag_of, second_start, sheet_end, zone_check, charset_check, known_check}
use Rattle.fields.specs.Fields.{vertices_check, five_fields, sheet_fields, rest_check, fields_check}
use Rattle.polygon.proofs.Laws.Checks.{accept_passed}
use Rattle.sheet.specs.Sheet.{zone_of, charset_of, name_length, name_of, known_of, vertex_count_of, vertices_of, second_of}
use Rattle.sheet.specs.Sheet.{sheet_second_check, sheet_check}
use Rattle.sheet.specs.Claims.{ReadsAs}
use Rattle.sheet.specs.Write.{field_bytes, second_bytes, sheet_bytes}
use Rattle.fields.proofs.Laws.Fields.{allowed_bounds, bounds_allowed}
use Rattle.sheet.proofs.Laws.Stores.{word_bytes_length, sheet_bytes-length}
use Rattle.sheet.proofs.Laws.Bodies.{tag_written, length_written, body_written, rest_written, field_written}
use Rattle.sheet.proofs.Laws.Reads.{plain_polygon, second_absent, second_present, sheet_second, read_accepted}
use Rattle.sheet.proofs.Laws.Accepted.{accepted_list, accepted_number, fits_word, within_word, optional_small}
use Rattle.sheet.proofs.Laws.Second.{none_written, some_written, second_field_written, second_written}
use Rattle.sheet.proofs.Laws.Second.{end_second}
use Rattle.std.specs.declared.result.Result.TheVariants.{Ok}

-- Its parts are those that the writer's checks let through.
pub record Writable (zone charset : ℕ) (name : List ℕ) (known : Point) (g : Grid) (vertices : List ℤ)
    (second : Point) : Type 0 where
  pub small : zone < 4294967296
  pub coded : is_charset charset ≡ true
  pub named : is_allowed 1 120 1 (length name) ≡ true
  pub paired : optional_check (limit_of g) vertices known second ≡ Ok tt

module _
    (zone charset : ℕ) (name : List ℕ) (known : Point) (g : Grid) (vertices : List ℤ) (second : Point)
    (w : Writable zone charset name known g vertices second)
    (b : List ℕ) (is : b ≡ sheet_bytes zone charset name known g vertices second) where
  -- its points
  accepted : accept_check (limit_of g) vertices known ≡ Ok tt
  accepted = optional_first (limit_of g) vertices known second w.paired

  second_within : Within 2147483647 second
  second_within = optional_small g vertices known second w.paired

  -- where the fields stand
  zone_at_lem :
      drop 0 b ≡ field_bytes 1 (word_bytes zone) ++ (field_bytes 2 (charset ∷ [])
      ++ (field_bytes 3 name ++ (field_bytes 4 (point_bytes known)
      ++ (field_bytes (tag_of g) (ints_bytes vertices) ++ second_bytes second))))
  unfolding sheet_bytes
  zone_at_lem = is

  charset_at :
      drop charset_start b ≡ field_bytes 2 (charset ∷ [])
      ++ (field_bytes 3 name ++ (field_bytes 4 (point_bytes known)
      ++ (field_bytes (tag_of g) (ints_bytes vertices) ++ second_bytes second)))
  charset_at = rest_written b 0 1 (word_bytes zone) _ zone_at_lem charset_start (omega (arith, word_bytes_length zone))

  name_at_lem :
      drop name_start b ≡ field_bytes 3 name ++ (field_bytes 4 (point_bytes known)
      ++ (field_bytes (tag_of g) (ints_bytes vertices) ++ second_bytes second))
  name_at_lem = rest_written b charset_start 2 (charset ∷ []) _ charset_at name_start (omega arith)

  name_size : length name < 65536
  name_size = let a = allowed_bounds 1 120 1 (length name) w.named in omega arith

  pub name_length_written : name_length b ≡ length name
  name_length_written = length_written b name_start 3 name _ name_at_lem name_size

  known_start_lem : known_start b ≡ 14 + length name
  unfolding field_end
  known_start_lem = omega (arith, name_length_written)

  known_at : drop (known_start b) b
      ≡ field_bytes 4 (point_bytes known) ++ (field_bytes (tag_of g) (ints_bytes vertices) ++ second_bytes second)
  known_at = rest_written b name_start 3 name _ name_at_lem (known_start b) known_start_lem

  known_size : length (point_bytes known) ≡ 12
  known_size = ints_bytes-length (numbers_of known)

  vertices_at : drop (vertices_start b) b ≡ field_bytes (tag_of g) (ints_bytes vertices) ++ second_bytes second
  vertices_at =
      rest_written b (known_start b) 4 (point_bytes known) _ known_at (vertices_start b) (omega (arith, known_size))

  row_size : length (ints_bytes vertices) < 65536
  row_size =
      let l = accepted_list (limit_of g) vertices known accepted in
      omega (arith, ints_bytes-length vertices)

  row_length : short_at b (vertices_start b + 1) ≡ length vertices * 4
  row_length =
      length_written b (vertices_start b) (tag_of g) (ints_bytes vertices) _ vertices_at row_size
      ∙ ints_bytes-length vertices

  second_start_lem : second_start b ≡ vertices_start b + 3 + length (ints_bytes vertices)
  unfolding field_end
  second_start_lem = omega (arith, row_length, ints_bytes-length vertices)

  second_at : drop (second_start b) b ≡ second_bytes second
  second_at = rest_written b (vertices_start b) (tag_of g) (ints_bytes vertices) _ vertices_at (second_start b) second_start_lem

  -- what is read there
  pub zone_written : zone_of b ≡ zone
  zone_written = word_written b 3 zone _ w.small (body_written b 0 1 (word_bytes zone) _ zone_at_lem)

  pub charset_written : charset_of b ≡ charset
  charset_written = first_written b 10 (body_written b charset_start 2 (charset ∷ []) _ charset_at)

  pub name_written : name_of b ≡ name
  name_written =
      rw (name_length_written, body_written b name_start 3 name _ name_at_lem) (take_at name _ (length name) refl)

  pub known_written : known_of b ≡ known
  known_written =
      point_written b (known_start b + 3) known _ (within_word g (accept_passed accepted).known)
      (body_written b (known_start b) 4 (point_bytes known) _ known_at)

  pub grid_written : grid_of b ≡ g
  unfolding grid_at
  grid_written =
      ap (λ (k : ℕ). cond (eqb k 7) Fine Coarse)
      (tag_written b (vertices_start b) (tag_of g) (ints_bytes vertices) _ vertices_at) ∙ tagged g
    where
      tagged : (h : Grid) → cond (eqb (tag_of h) 7) Fine Coarse ≡ h
      tagged Coarse = refl
      tagged Fine = refl

  pub count_written : vertex_count_of b ≡ vertices_count vertices
  count_written = let l = accepted_list (limit_of g) vertices known accepted in omega (arith, row_length)

  pub vertices_written : vertices_of b ≡ vertices
  vertices_written =
      let l = accepted_list (limit_of g) vertices known accepted in
      let n : vertex_count_of b * 3 ≡ length vertices = omega (arith, row_length) in
      rw n
      (ints_written b (vertices_start b + 3) vertices _
      (λ i. fits_word g (accepted_number (limit_of g) vertices known accepted i))
      (body_written b (vertices_start b) (tag_of g) (ints_bytes vertices) _ vertices_at))

  -- its fields pass, and nothing follows them
  charset_passed : charset_check b ≡ Ok tt
  unfolding charset_check is_allowed
  charset_passed =
      rw (
        field_written b charset_start 2 (charset ∷ []) _ charset_at (is_allowed 1 1 1) (omega arith) refl,
        charset_written,
        w.coded,
      )

  zone_passed : zone_check b ≡ Ok tt
  unfolding is_allowed
  zone_passed =
      let n = word_bytes_length zone in
      field_written b 0 1 (word_bytes zone) _ zone_at_lem (is_allowed 4 4 1) (omega arith) (ap (is_allowed 4 4 1) n)

  known_passed : known_check b ≡ Ok tt
  unfolding is_allowed
  known_passed =
      field_written b (known_start b) 4 (point_bytes known) _ known_at (is_allowed 12 12 1)
      (omega (arith, known_size)) (ap (is_allowed 12 12 1) known_size)

  vertices_passed : vertices_check b ≡ Ok tt
  vertices_passed =
      let l = accepted_list (limit_of g) vertices known accepted in
      let n = ints_bytes-length vertices in
      rw grid_written
      (field_written b (vertices_start b) (tag_of g) (ints_bytes vertices) _ vertices_at (is_allowed 36 49152 12) row_size
      (bounds_allowed 36 49152 12 _ (record { low = omega arith; high = omega arith; whole = omega arith })))

  five_written : five_fields b ≡ Ok tt
  unfolding five_fields
  five_written =
      let named = field_written b name_start 3 name _ name_at_lem (is_allowed 1 120 1) name_size w.named in
      rw (zone_passed, charset_passed, named, known_passed, vertices_passed)

  sheet_ends : length b ≤ sheet_end b
  sheet_ends =
      let n = ap length is ∙ sheet_bytes-length zone charset name known g vertices second in
      let e = end_second second b second_at in
      omega (arith, second_start_lem, known_start_lem, ints_bytes-length vertices)

  pub fields_written : fields_check b ≡ Ok tt
  unfolding fields_check sheet_fields rest_check
  fields_written =
      rw (five_written, second_field_written second b second_at, le-ltb (sheet_end b) (length b) sheet_ends)

  -- so reading it hands back its parts
  pub second_back : second_of b ≡ second
  second_back = second_written second b second_at second_within

  second_check_written : sheet_second_check b ≡ Ok tt
  second_check_written = go (is_null second) refl
    where
      go : (none : Bool) → is_null second ≡ none → sheet_second_check b ≡ Ok tt
      go true e = (second_absent b (none_written second b second_at e)).1
      go false e =
          (second_present b (some_written second b second_at e)).1
          ∙ rw (grid_written, vertices_written, known_written, second_back)
          (optional_check_lem (limit_of g) vertices known second w.paired e)

  written_check : sheet_check b ≡ Ok tt
  written_check =
      sheet_second b (plain_polygon b fields_written ∙ rw (grid_written, vertices_written, known_written) accepted)
      ∙ second_check_written

  pub reads_as : ReadsAs zone charset name known g vertices second b
  reads_as =
      let parts = read_accepted b written_check in
      record {
        handed_back =
            parts
            ∙ rw (
              zone_written,
              charset_written,
              name_length_written,
              known_written,
              count_written,
              second_back,
              grid_written,
            );
        same_name = rw parts name_written;
        same_vertices = vertices_written;
      }

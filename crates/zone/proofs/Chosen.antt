-- A sheet with the chosen candidate behind it reads back with that point: it is what writing with that second point
-- gives. Proved, in order: chosen_second (a candidate that is chosen passes), second_behind, chosen_reads_back.
use mathlib.Core.Path.{◌≡◌, sym, ◌∙◌, ap}
use mathlib.Core.Bool.{Bool, true, false, not}
use mathlib.Core.List.{List, [], ◌∷◌, ◌++◌, append-nil, append_assoc}
use Prim.Native.Nat.{ℕ}
use native.Mathlib.Omega.{arith}
use lib.IntN.{ℤ}
use Rattle.sphere.specs.declared.point.Point.{Point}
use Rattle.sphere.specs.declared.point.Grid.{Grid}
use Rattle.sphere.specs.Point.{limit_of, is_null}
use Rattle.big_endian.specs.Bytes.{AreBytes, word_bytes, ints_bytes, point_bytes}
use Rattle.big_endian.proofs.Laws.Kept.{word_at_bound}
use Rattle.std.specs.declared.option.Option.{Option}
use Rattle.std.specs.declared.option.Option.TheVariants.{None, Some}
use Rattle.std.specs.declared.result.Result.TheVariants.{Ok, Err}
use Rattle.answer.specs.declared.Reason.TheVariants.{VertexList}
use Rattle.answer.specs.Refusal.{Answer}
use Rattle.answer.specs.declared.Verdict.TheVariants.{Done}
use Rattle.answer.specs.Refusal.{Check}
use Rattle.answer.specs.Answer.{answer_after}
use Rattle.answer.specs.Chain.{◌then◌, fails_if}
use Rattle.answer.specs.Search.{first_from}
use Rattle.answer.proofs.Laws.First.{first_found}
use Rattle.polygon.specs.Vertices.{vertices_count, vertex_at}
use Rattle.polygon.specs.Checks.{accept_check}
use Rattle.polygon.specs.Pair.{no_second, is_second, second_check, pair_check, optional_check, is_whole, chosen}
use Rattle.polygon.specs.Pair.{earliest_of, choose_of}
use Rattle.polygon.specs.Grids.{grid_check}
use Rattle.polygon.specs.GridClaims.{on}
use Rattle.polygon.proofs.Laws.Checks.{accepted_some}
use Rattle.polygon.proofs.Laws.Pair.{second_passed, optional_first, pair→optional}
use Rattle.fields.specs.Fields.{tag_of, grid_of, has_second_point, fields_check}
use Rattle.sheet.specs.Sheet.{zone_of, charset_of, name_of, known_of, vertices_of, second_of}
use Rattle.sheet.specs.Write.{field_bytes, second_bytes, sheet_bytes, input_check}
use Rattle.sheet.proofs.Laws.Accepted.{list_check_lem}
use Rattle.sheet.proofs.Laws.Second.{second_kept}
use Rattle.sheet.proofs.Laws.Kept.{sheet_kept}
use Rattle.sheet.proofs.Laws.Reads.{second_absent}
use Rattle.sheet.proofs.Laws.Writes.{passed_writable}
use Rattle.sheet.proofs.Laws.Written.{reads_as}
use Rattle.sheet.proofs.Claims.{read_done, Accepted, accepted, one_grid, five, coded, named}
use Rattle.sheet.specs.Claims.{ReadsAs}
use Rattle.zone.specs.Choose.{candidates_of, whole_check, sheet_choose_of}
use Rattle.zone.specs.Claims.{ChosenReadsBack}

-- ---- a candidate that is chosen passes
after_done : (c : Check) {a : Answer} {i : ℕ} → answer_after c a ≡ Ok (Done i) → a ≡ Ok (Done i)
after_done (Ok unit) e = e
after_done (Err refusal) e = let z : ◌≡◌ {A = ℕ} 0 1 = cc in absurd (omega arith)

chosen_at : (f : Option ℕ) {i : ℕ} → chosen f ≡ Ok (Done i) → f ≡ Some i
chosen_at None e = let z : ◌≡◌ {A = ℕ} 0 1 = cc in absurd (omega arith)
chosen_at (Some place) {i} e = let same : place ≡ i = cc in ap Some same

chosen_second : (b candidates : List ℕ) (i : ℕ) → sheet_choose_of b candidates ≡ Ok (Done i) →
    is_second (limit_of (grid_of b)) (vertices_of b) (known_of b) (vertex_at (candidates_of candidates) i) ≡ true
unfolding sheet_choose_of choose_of earliest_of
chosen_second b candidates i e =
    let cs = candidates_of candidates in
    let limit = limit_of (grid_of b) in
    let test : ℕ → Bool = λ i. is_second limit (vertices_of b) (known_of b) (vertex_at cs i) in
    let choice = after_done (whole_check candidates then fields_check b) e in
    let first = after_done (fails_if VertexList (not (is_whole cs)) then accept_check limit (vertices_of b) (known_of b)) choice in
    (first_found test 0 (vertices_count cs) i (chosen_at (first_from test 0 (vertices_count cs)) first)).holds

-- ---- a sheet with a second point is the sheet without, and the field behind it
second_behind : (zone charset : ℕ) (name : List ℕ) (known : Point) (g : Grid) (vertices : List ℤ) (Y : Point) →
    sheet_bytes zone charset name known g vertices Y ≡ sheet_bytes zone charset name known g vertices no_second
    ++ second_bytes Y
unfolding sheet_bytes second_bytes is_null
second_behind zone charset name known g vertices Y =
    rw (append-nil (field_bytes (tag_of g) (ints_bytes vertices)))
    (ap (λ l. a ++ (b ++ (c ++ l))) (sym (append_assoc d e s))
    ∙ ap (λ l. a ++ (b ++ l)) (sym (append_assoc c (d ++ e) s))
    ∙ ap (λ l. a ++ l) (sym (append_assoc b (c ++ (d ++ e)) s))
    ∙ sym (append_assoc a (b ++ (c ++ (d ++ e))) s))
  where
    a : List ℕ
    a = field_bytes 1 (word_bytes zone)

    b : List ℕ
    b = field_bytes 2 (charset ∷ [])

    c : List ℕ
    c = field_bytes 3 name

    d : List ℕ
    d = field_bytes 4 (point_bytes known)

    e : List ℕ
    e = field_bytes (tag_of g) (ints_bytes vertices)

    s : List ℕ
    s = second_bytes Y

-- ---- an accepted sheet without a second point, and a point that passes beside its own
module _ (b : List ℕ) (a : Accepted b) (none : has_second_point b ≡ false) (are : AreBytes b) (Y : Point)
    (passes : is_second (limit_of (grid_of b)) (vertices_of b) (known_of b) Y ≡ true) where
  first : accept_check (limit_of (grid_of b)) (vertices_of b) (known_of b) ≡ Ok tt
  first = optional_first (limit_of (grid_of b)) (vertices_of b) (known_of b) (second_of b) a.points

  beside : second_check (limit_of (grid_of b)) (vertices_of b) (known_of b) Y ≡ Ok tt
  unfolding second_check
  beside = rw passes

  both : optional_check (limit_of (grid_of b)) (vertices_of b) (known_of b) Y ≡ Ok tt
  unfolding pair_check
  both = pair→optional (limit_of (grid_of b)) (vertices_of b) (known_of b) Y (rw first beside)

  some : is_null Y ≡ false
  some =
      accepted_some (limit_of (grid_of b)) (vertices_of b) Y
      (second_passed (limit_of (grid_of b)) (vertices_of b) (known_of b) Y beside).accepted

  input : input_check (charset_of b) (name_of b) (on (grid_of b) (known_of b)) (grid_of b) (vertices_of b) (on (grid_of b) Y)
      ≡ Ok tt
  unfolding input_check grid_check
  input =
      rw (
        coded b a,
        named b a,
        list_check_lem (limit_of (grid_of b)) (vertices_of b) (known_of b) first,
        one_grid (grid_of b) Y,
        both,
      )

  written : sheet_bytes (zone_of b) (charset_of b) (name_of b) (known_of b) (grid_of b) (vertices_of b) Y
      ≡ b ++ field_bytes 6 (point_bytes Y)
  unfolding second_bytes
  written =
      let kept = sheet_kept b (five b a) are (second_kept b a.sound a.ends a.some are) in
      let plain = rw (second_absent b none).0 at kept in
      second_behind (zone_of b) (charset_of b) (name_of b) (known_of b) (grid_of b) (vertices_of b) Y ∙ rw (plain, some)

  behind : ReadsAs (zone_of b) (charset_of b) (name_of b) (known_of b) (grid_of b) (vertices_of b) Y
      (b ++ field_bytes 6 (point_bytes Y))
  behind =
      let w = passed_writable (charset_of b) (name_of b) (on (grid_of b) (known_of b)) (grid_of b) (vertices_of b)
      (on (grid_of b) Y) (zone_of b) (word_at_bound b are 3) input in
      reads_as (zone_of b) (charset_of b) (name_of b) (known_of b) (grid_of b) (vertices_of b) Y w _ (sym written)

pub chosen_reads_back : ChosenReadsBack
chosen_reads_back b candidates i are e none done =
    behind b (accepted b (read_done b e)) none are (vertex_at (candidates_of candidates) i)
    (chosen_second b candidates i done)

-- Where the parts of a sheet stand whose fields passed, in the numbers that the code adds up. Proved, in order:
-- known_stands, vertices_stand, row_room, second_stands.
use mathlib.Core.Path.{◌≡◌, sym, ap, ◌∙◌}
use mathlib.Core.Bool.{true}
use mathlib.Core.List.{List}
use Prim.Native.Nat.{ℕ, ◌+◌, ◌*◌, ◌≤◌}
use native.Mathlib.Omega.{arith}
use lib.ListN.{length}
use Rattle.std.specs.declared.result.Result.TheVariants.{Ok}
use Rattle.fields.specs.declared.Parts.{Parts}
use Rattle.fields.specs.Fields.{known_start, vertices_start, five_fields, sheet_fields}
use Rattle.fields.specs.Parts.{parts_of}
use Rattle.fields.proofs.Laws.Fields.{passed_spans, second_body}
use Rattle.fields.proofs.Laws.Parts.{parts_second}
use Rattle.sheet.specs.Sheet.{name_length, vertex_count_of}
use Rattle.sheet.specs.Open.{room_for}

module _ (b : List ℕ) where
  pub known_stands : five_fields b ≡ Ok tt →
      (17 + name_length b ≡ known_start b + 3) × (known_start b + 15 ≤ length b) × (name_length b ≤ 120)
  known_stands e =
      let s = passed_spans b e in
      (omega (arith, s.known_at), omega (arith, s.second_at, s.ends), omega (arith, s.name.high))

  pub vertices_stand : five_fields b ≡ Ok tt →
      (32 + name_length b ≡ vertices_start b + 3) × (vertices_start b + 3 + vertex_count_of b * 12 ≤ length b)
      × (vertex_count_of b ≤ 4096) × (name_length b ≤ 120)
  vertices_stand e =
      let s = passed_spans b e in (
        omega (arith, s.known_at),
        omega (arith, s.second_at, s.ends),
        omega (arith, s.row.high),
        omega (arith, s.name.high),
      )

  -- Scratch space for any sheet of these bytes is enough for its vertices.
  pub row_room : five_fields b ≡ Ok tt → vertex_count_of b * 3 ≤ room_for b
  row_room e = let v = vertices_stand e in omega (arith, v.0, v.1, v.2)

  pub second_stands : {p : Parts} → p ≡ parts_of b → sheet_fields b ≡ Ok tt → p.has_second ≡ true →
      p.name + 32 + p.row + 15 ≤ length b
  second_stands e h t =
      let has = sym (ap (λ p. p.has_second) e) ∙ t in omega (arith, parts_second b e, second_body b h has)

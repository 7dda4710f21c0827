-- What the checks of the fields hand on. Proved, in order: passed_value, refused_value (what was said of a check, by what
-- it handed on); parts_second, parts_end, parts_few (the numbers of a sheet that passed).
use mathlib.Core.Path.{◌≡◌, refl, ap, ap₂}
use mathlib.Core.Bool.{Bool, cond}
use mathlib.Core.List.{List}
use Prim.Native.Nat.{ℕ, ◌+◌, ◌≤◌}
use native.Mathlib.Omega.{arith}
use Rattle.big_endian.specs.Bytes.{short_at}
use Rattle.std.specs.declared.result.Result.TheVariants.{Ok, Err}
use Rattle.answer.specs.declared.Refusal.{Refusal}
use Rattle.answer.specs.Refusal.{Check}
use Rattle.fields.specs.declared.Parts.{Parts}
use Rattle.fields.specs.Fields.{field_end, vertices_start, second_start, sheet_end, five_fields}
use Rattle.fields.specs.Parts.{value_after, parts_of, second_of_parts, end_of_parts}
use Rattle.fields.proofs.Laws.Fields.{passed_spans, five_passed}

-- ---- one check, by the value that it lets through

module _ {A : Type 0} where
  pub passed_value : (c : Check) {v w : A} → value_after c v ≡ Ok w → (c ≡ Ok tt) × (w ≡ v)
  passed_value (Ok unit) e = (refl, cc)
  passed_value (Err refusal) e = absurd cc

  pub refused_value : (c : Check) (v : A) {refusal : Refusal} → value_after c v ≡ Err refusal → c ≡ Err refusal
  refused_value (Ok unit) v e = absurd cc
  refused_value (Err refusal) v e = cc

pub ruleset values = (passed_value, refused_value)

-- ---- the numbers of a sheet whose fields passed

module _ (b : List ℕ) {p : Parts} (e : p ≡ parts_of b) where
  name : p.name ≡ short_at b 12
  name = ap (λ p. p.name) e

  row : p.row ≡ short_at b (vertices_start b + 1)
  row = ap (λ p. p.row) e

  pub parts_second : second_of_parts p ≡ second_start b
  unfolding field_end
  parts_second = omega (arith, name, row)

  pub parts_end : end_of_parts p ≡ sheet_end b
  parts_end =
      ap₂ (λ (has : Bool) (at : ℕ). cond has (at + 15) at) (ap (λ p. p.has_second) e) parts_second

  pub parts_few : five_fields b ≡ Ok tt → (p.name ≤ 120) × (p.row ≤ 49152)
  parts_few ok =
      let s = passed_spans b ok in
      (omega (arith, name, s.name.high), omega (arith, row, s.row.high))

-- Where the fields end.
pub ruleset ends = (parts_end, parts_few, five_passed)

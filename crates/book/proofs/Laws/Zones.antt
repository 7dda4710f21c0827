-- A zone's answer, by the named grid. Proved, in order: zone_named, zone_other.
use mathlib.Core.Path.{◌≡◌}
use mathlib.Core.List.{List}
use Prim.Native.Nat.{ℕ}
use borrow.Author.Tests.{eq-eqb, ne_eqb}
use Rattle.sphere.specs.declared.point.Point.{Point}
use Rattle.fields.specs.Fields.{grid_of}
use Rattle.zone.specs.Judge.{sheet_answer_of}
use Rattle.book.specs.Which.{grid_number_of, named_check, zone_answer}
use Rattle.std.specs.declared.result.Result.TheVariants.{Err}
use Rattle.answer.specs.declared.Reason.TheVariants.{OtherGrid}
use Rattle.answer.specs.Refusal.{refused_at}

module _ (grid : ℕ) (query : Point) (part : List ℕ) where
  pub zone_named : grid ≡ grid_number_of (grid_of part) → zone_answer grid query part ≡ sheet_answer_of part query
  unfolding zone_answer named_check
  zone_named e = rw (eq-eqb grid (grid_number_of (grid_of part)) e)

  pub zone_other : (grid ≡ grid_number_of (grid_of part) → ⊥) → zone_answer grid query part ≡ Err (refused_at OtherGrid 0)
  unfolding zone_answer named_check
  zone_other e = rw (ne_eqb grid (grid_number_of (grid_of part)) e)

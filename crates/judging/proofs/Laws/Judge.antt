-- The verdict by a tally, and the number looked at of a refusal. Proved: verdict_tally, none_looked.
use mathlib.Core.Path.{◌≡◌, refl}
use mathlib.Core.List.{List}
use Prim.Native.Nat.{ℕ}
use lib.IntN.{ℤ}
use Rattle.sphere.specs.declared.point.Point.{Point}
use Rattle.std.specs.declared.option.Option.{Option}
use Rattle.std.specs.declared.option.Option.TheVariants.{None, Some}
use Rattle.answer.specs.Search.{first_from}
use Rattle.polygon.specs.Vertices.{vertices_count}
use Rattle.polygon.specs.Verdict.{is_on_border, boundary_of, crossings_of, winding_of, verdict_by, verdict_of}
use Rattle.search.specs.declared.walk.Mode.{Mode}
use Rattle.search.specs.declared.walk.Mode.TheVariants.{Plain, Boxed, Counted}
use Rattle.search.specs.Walk.{tally_by, tally_from, looked_in}
use Rattle.judging.specs.Judge.{verdict_on}

-- The verdict is the walk's.
pub verdict_tally : (vs : List ℤ) (X P : Point) → verdict_on (tally_from vs X P 0 (vertices_count vs)) ≡ verdict_of vs X P
unfolding tally_from verdict_of boundary_of crossings_of winding_of
verdict_tally vs X P = go (first_from (is_on_border vs P) 0 (vertices_count vs)) _ _
  where
    go : (found : Option ℕ) (c : ℕ) (s : ℤ) → verdict_on (tally_by found c s) ≡ verdict_by found c s
    go None c s = refl
    go (Some edge) c s = refl

-- None in every mode.
pub none_looked : (mode : Mode) → 0 ≡ looked_in mode 0
none_looked Plain = refl
none_looked Boxed = refl
none_looked Counted = refl

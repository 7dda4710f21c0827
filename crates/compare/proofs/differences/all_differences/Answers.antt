-- `differences::all_differences` meets its contract: field after field.
use mathlib.Core.Path.{◌≡◌, refl, ap, ◌∙◌}
use mathlib.Core.Bool.{Bool, not}
use mathlib.Core.List.{[], ◌∷◌}
use Prim.Native.Nat.{ℕ}
use native.Mathlib.Omega.{arith}
use lib.Dec.{eqb}
use denote.Enum.Bare.{sameb}
use Rattle.sphere.specs.declared.point.Grid.{Grid}
use Rattle.sphere.specs.declared.point.Grid.TheVariants.{Coarse, Fine}
use Rattle.sphere.specs.contracts.point.Grid.{the_type}
use Rattle.fields.specs.Fields.{tag_of}
use Rattle.sphere.specs.Direction.{is_same_direction}
use Rattle.compare.specs.declared.differences.Field.{Field}
use Rattle.compare.specs.declared.differences.Field.TheVariants.{ZoneNumber, CharacterSet, Name, KnownPoint, Vertices}
use Rattle.compare.specs.declared.differences.Field.TheVariants.{WhichGrid, SecondPoint}
use Rattle.compare.specs.Ring.{way_of}
use Rattle.compare.specs.Differences.{is_same_second, differs, differences_of}
use Rattle.compare.proofs.Laws.Noted.{noted_step}
use Rattle.compare.proofs.Laws.Sheets.{accepted_known, accepted_second}
use Rattle.compare.proofs.differences.all_differences.Goals as goal

-- Two grids have one tag just if they are the same.
tags : (g h : Grid) → sameb the_type g h ≡ eqb (tag_of g) (tag_of h)
tags Coarse Coarse = refl
tags Coarse Fine = refl
tags Fine Coarse = refl
tags Fine Fine = refl

pub same_direction-requires : goal.same_direction-requires
same_direction-requires c =
    let s = c.requires.first_value in (accepted_known s.0, accepted_known s.1)

pub is_same_second-requires : goal.is_same_second-requires
is_same_second-requires c =
    let s = c.requires.first_value in (accepted_second s.0, accepted_second s.1)

pub returns : goal.returns
unfolding differs differences_of
returns c =
    let test : Field → Bool = differs c.args.left.now c.args.right.now in
    let first = c.requires.first_value.0.parts in
    let second = c.requires.first_value.1.parts in
    noted_step test (ZoneNumber ∷ CharacterSet ∷ Name ∷ KnownPoint ∷ Vertices ∷ WhichGrid ∷ []) SecondPoint (omega arith)
    (noted_step test (ZoneNumber ∷ CharacterSet ∷ Name ∷ KnownPoint ∷ Vertices ∷ []) WhichGrid (omega arith)
    (noted_step test (ZoneNumber ∷ CharacterSet ∷ Name ∷ KnownPoint ∷ []) Vertices (omega arith)
    (noted_step test (ZoneNumber ∷ CharacterSet ∷ Name ∷ []) KnownPoint (omega arith) c.head_differences-d.ensures
    (ap not (c.same_direction.ensures ∙ (λ i. is_same_direction (first i).known (second i).known))) c.with-d.ensures)
    (ap (λ (n : ℕ). eqb n 0) (c.way.ensures ∙ ap way_of c.requires.ring_value)) c.with-d-2.ensures)
    (c.ne.ensures ∙ ap not ((λ i. sameb the_type (first i).grid (second i).grid) ∙ tags _ _)) c.with-d-3.ensures)
    (ap not (c.is_same_second.ensures ∙ (λ i. is_same_second (first i).second (second i).second))) c.with.ensures

-- The arc from X to P. Proved, in order: arc_sound, arc_searchable; arc_side (the side of a point is its orientation),
-- reference (what is known of the reference point).
use mathlib.Core.Path.{◌≡◌, refl, sym, ap, ◌∙◌, subst}
use mathlib.Core.Bool.{Bool}
use mathlib.Core.List.{List}
use lib.IntN.{ℤ}
use Rattle.sphere.specs.declared.point.Point.{Point}
use Rattle.sphere.specs.declared.point.Grid.{Grid}
use Rattle.sphere.specs.Point.{limit_of, Within}
use Rattle.sphere.specs.Orientation.{orientation_of, dot_of}
use Rattle.sphere.specs.Plane.{plane_of}
use Rattle.sphere.proofs.Laws.Plane.{plane_sound}
use Rattle.polygon.specs.Checks.{accept_check}
use Rattle.polygon.proofs.Laws.Checks.{Reference, reference_accepted, accept_passed}
use Rattle.search.specs.declared.arc.Arc.{Arc}
use Rattle.search.specs.Arc.{arc_of, SoundArc, AcceptedArc, Searchable}
use Rattle.search.specs.Boxes.{Boxed}
use Rattle.search.proofs.Laws.Skipped.{side-of}
use Rattle.std.specs.declared.result.Result.TheVariants.{Ok}

pub arc_sound : (g : Grid) (X P : Point) (by-boxes : Bool) → Within (limit_of g) X → Within (limit_of g) P →
    SoundArc (arc_of g X P by-boxes)
unfolding arc_of plane_of
arc_sound g X P by-boxes known query =
    record { known = known; query = query; through = refl; sound = plane_sound g X P known query }

pub arc_searchable : {vs boxes : List ℤ} (g : Grid) (X P : Point) (by-boxes : Bool) {arc : Arc} →
    accept_check (limit_of g) vs X ≡ Ok tt → Within (limit_of g) P → Boxed vs boxes → arc ≡ arc_of g X P by-boxes →
    Searchable vs boxes arc
unfolding arc_of plane_of
arc_searchable {vs} {boxes} g X P by-boxes accepted query boxed e = subst (Searchable vs boxes) (sym e) (record {
  aimed = record { accepted = accepted; sound = arc_sound g X P by-boxes (accept_passed accepted).known query };
  boxed = boxed;
})

pub arc_side : {arc : Arc} → SoundArc arc → (p : Point) →
    dot_of arc.plane.normal p ≡ orientation_of arc.from arc.to p
arc_side {arc} s p = ap (λ n. dot_of n p) s.through ∙ side-of arc.from arc.to p

pub reference : {vs : List ℤ} {arc : Arc} → AcceptedArc vs arc → Reference (limit_of arc.plane.grid) vs arc.from
reference {vs} {arc} s = reference_accepted (limit_of arc.plane.grid) vs arc.from s.accepted

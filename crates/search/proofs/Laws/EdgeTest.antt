-- One edge. Proved, in order: one_sided_by, one_sided_test (ends strictly on one side), way_by_lem (which way it is
-- crossed, by the four orientations).
use mathlib.Core.Path.{◌≡◌}
use mathlib.Core.Bool.{Bool, true, ◌&&◌}
use mathlib.Core.List.{List}
use Prim.Native.Nat.{ℕ, ◌<◌}
use lib.IntN.{ℤ, pos}
use Rattle.integers.specs.Sign.{sign_of, unit_of}
use Rattle.sphere.specs.declared.point.Point.{Point}
use Rattle.sphere.specs.Orientation.{orientation_of}
use Rattle.sphere.specs.Crossing.{crossing_by, crossing_of}
use Rattle.sphere.proofs.Laws.Beside.{beside_not_crossed, beside_not_on}
use Rattle.polygon.specs.Vertices.{vertices_count, start_of, end_of}
use Rattle.polygon.specs.Border.{is_border}
use Rattle.polygon.specs.Verdict.{is_held_by, is_on_border, way_of}
use Rattle.polygon.proofs.Laws.Checks.{OffCircles}
use Rattle.search.specs.declared.walk.EdgeTest.TheVariants.{Way}
use Rattle.search.specs.Scan.{is_one_sided}
use Rattle.search.specs.Walk.{test_by}

-- whatever else is asked of an edge that holds P
pub one_sided_by : (vs : List ℤ) (X P : Point) (i : ℕ) → OffCircles vs X → i < vertices_count vs →
    is_one_sided vs X P i ≡ true → (more : Bool) →
    test_by (is_held_by vs P i && more) (way_of vs X P i) ≡ Way (pos 0)
one_sided_by vs X P i off h e more =
    let A = start_of vs i in
    let B = end_of vs i in
    rw (beside_not_on X P A B (off i h) e, beside_not_crossed X P A B e)

pub one_sided_test : (vs : List ℤ) (X P : Point) (i : ℕ) → OffCircles vs X → i < vertices_count vs →
    is_one_sided vs X P i ≡ true →
    test_by (is_on_border vs P i) (way_of vs X P i) ≡ Way (pos 0)
one_sided_test vs X P i off h e = one_sided_by vs X P i off h e (is_border vs i)

pub way_by_lem : (X P : Point) {a b c d : Point} (s1 s2 s3 s4 : ℤ) {r : ℤ} →
    r ≡ unit_of (crossing_by (sign_of s1) (sign_of s2) (sign_of s3) (sign_of s4)) →
    sign_of s3 ≡ sign_of (orientation_of a b X) →
    sign_of s1 ≡ sign_of (orientation_of X P c) → sign_of s2 ≡ sign_of (orientation_of X P d) →
    sign_of s4 ≡ sign_of (orientation_of a b P) → a ≡ c → b ≡ d →
    r ≡ unit_of (crossing_of X P c d)
unfolding crossing_of
way_by_lem X P s1 s2 s3 s4 r t3 t1 t2 t4 a b = cc

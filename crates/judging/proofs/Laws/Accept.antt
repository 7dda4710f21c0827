-- The boxes of an accepted polygon. Proved, in order: room_any (768 numbers hold the boxes of any), after_boxed.
use mathlib.Core.Path.{◌≡◌}
use mathlib.Core.List.{List}
use Prim.Native.Nat.{ℕ, ◌≤◌}
use native.Mathlib.Omega.{arith}
use lib.IntN.{ℤ}
use lib.ListN.{length}
use Rattle.sphere.specs.declared.point.Point.{Point}
use Rattle.polygon.specs.Vertices.{vertices_count}
use Rattle.polygon.specs.Checks.{accept_check}
use Rattle.polygon.proofs.Laws.Checks.{accept_passed}
use Rattle.search.specs.Boxes.{Boxed}
use Rattle.search.proofs.Laws.Stored.{stored_boxed, runs_fit}
use Rattle.judging.specs.Accept.{BoxRoom, boxed_after}
use Rattle.std.specs.declared.result.Result.TheVariants.{Ok}

pub room_any : (vs boxes : List ℤ) → 768 ≤ length boxes → BoxRoom vs boxes
room_any vs boxes h = record { enough = λ few. omega (arith, runs_fit (vertices_count vs) few) }

pub after_boxed : (limit : ℕ) (vs : List ℤ) (X : Point) (boxes : List ℤ) → accept_check limit vs X ≡ Ok tt →
    BoxRoom vs boxes → Boxed vs (boxed_after (Ok tt) vs boxes)
after_boxed limit vs X boxes e room = stored_boxed vs boxes (room.enough (accept_passed e).listed.most)

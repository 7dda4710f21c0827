-- No second point (document 02, P4). Proved, in order: none_null, from_none (the first point judges), optional_none.
-- The laws of any second point are in polygon's Laws/Pair.
use mathlib.Core.Path.{◌≡◌, refl}
use mathlib.Core.Bool.{true}
use mathlib.Core.List.{List}
use Prim.Native.Nat.{ℕ}
use lib.IntN.{ℤ}
use Rattle.sphere.specs.declared.point.Point.{Point}
use Rattle.sphere.specs.Point.{is_null}
use Rattle.polygon.specs.Checks.{accept_check}
use Rattle.polygon.specs.Pair.{no_second, judge_from, optional_check}
use Rattle.polygon.proofs.Laws.Pair as pair
use Rattle.std.specs.declared.result.Result.TheVariants.{Ok}

pub none_null : is_null no_second ≡ true
unfolding is_null
none_null = refl

pub from_none : (X P : Point) → judge_from X no_second P ≡ X
from_none X P = pair.judge_none X no_second P none_null

pub optional_none : (limit : ℕ) (vs : List ℤ) (X : Point) → accept_check limit vs X ≡ Ok tt →
    optional_check limit vs X no_second ≡ Ok tt
optional_none limit vs X e = pair.optional_none limit vs X no_second e none_null

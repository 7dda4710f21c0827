-- Tests joined by 'or'. Proved, in order: or_first, or_second, or_cases, T_true.
use mathlib.Core.Path.{◌≡◌, refl}
use mathlib.Core.Bool.{Bool, true, false, ◌||◌}
use lib.Dec.{T}

pub or_first : (a b : Bool) → a ≡ true → (a || b) ≡ true
or_first a b e = rw e

pub or_second : (a b : Bool) → b ≡ true → (a || b) ≡ true
or_second true b e = refl
or_second false b e = e

pub or_cases : (a b : Bool) {Q : Type 0} → T (a || b) → (T a → Q) → (T b → Q) → Q
or_cases true b t f g = f tt
or_cases false b t f g = g t

pub T_true : (b : Bool) → T b → b ≡ true
T_true true t = refl
T_true false t = absurd t

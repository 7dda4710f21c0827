-- Round a ring each vertex is an end of two edges. Proved: ends_even. It stands apart from Laws/Count, so that an edit of
-- that file is refused for what it says there.
use mathlib.Core.Path.{◌≡◌, refl, ◌∙◌}
use mathlib.Core.Bool.{Bool, false}
use Prim.Native.Nat.{ℕ, zero, suc}
use native.Mathlib.Omega.{arith}
use Rattle.sphere.proofs.Parity.{◌⊕◌, ⊕-self}
use Rattle.polygon.specs.Vertices.{next_of}
use Rattle.polygon.proofs.Laws.Count.{odd_from, ends_from}

pub ends_even : (f : ℕ → Bool) (n : ℕ) → odd_from (λ j. f j ⊕ f (next_of n j)) 0 n ≡ false
ends_even f zero = refl
ends_even f (suc k) = ends_from f (suc k) 0 k (omega arith) ∙ ⊕-self (f 0)

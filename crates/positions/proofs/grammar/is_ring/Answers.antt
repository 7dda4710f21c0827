-- `is_ring` meets its contract: the ring stands at two places.
use mathlib.Core.Path.{◌≡◌, refl}
use mathlib.Core.Bool.{Bool, true, false, ◌||◌}
use Prim.Native.Nat.{ℕ, ◌<◌}
use borrow.Author.Tests.{eq-eqb, ne_eqb}
use lib.Dec.{T, eqb}
use lib.ListN.{get_or}
use Rattle.positions.specs.Text.{words}
use Rattle.positions.proofs.Table.{at}
use Rattle.positions.proofs.grammar.is_ring.Goals as goal

same : Bool → Bool → Bool
same true b = b
same false true = false
same false false = true

same_eq : (a b : Bool) → T (same a b) → a ≡ b
unfolding same
same_eq true true t = refl
same_eq true false t = absurd t
same_eq false true t = absurd t
same_eq false false t = refl

test : ℕ → ℕ → Bool
test k x = same (eqb x 256) (eqb k 34 || eqb k 55)

two_places : (k : ℕ) → k < 76 → eqb (get_or words k 0) 256 ≡ (eqb k 34 || eqb k 55)
unfolding words test same
two_places k h = same_eq (eqb (get_or words k 0) 256) (eqb k 34 || eqb k 55) (at test words tt k h)

pub returns-then-at-eq34 : goal.returns-then-at-eq34
returns-then-at-eq34 c = rw (two_places _ c.requires, eq-eqb _ _ c.if-at-eq34.true)

pub returns : goal.returns
returns c = rw (two_places _ c.requires, ne_eqb _ _ c.if-at-eq34.false)

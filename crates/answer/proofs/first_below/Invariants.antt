-- `first_below` meets its contract: nothing before i passes the test.
use Rattle.std.proofs.Common.{◌≡◌, ◌<◌, ◌≤◌, ℕ, Bool}
use Rattle.answer.proofs.Laws.Search.{Searched}
use Rattle.answer.proofs.first_below.Given as goal

abbrev pub invariant-loop-i : goal.invariant-loop-i
invariant-loop-i g l =
    (l.i ≤ l.n) × ((t : ℕ → Bool) → ((j : ℕ) (b : Bool) → j < l.n → goal.F-post g l.test j b → b ≡ t j) → Searched t l.n l.i)

-- A number of C's that is handed on is the same number. Proved, in order: handed, handed_answer, handed_zones.
use mathlib.Core.Path.{◌≡◌, ap}
use mathlib.Core.List.{List}
use Prim.Native.Nat.{ℕ}
use lib.IntN.{ℤ}
use mir.Syntax.{w32}
use mir.Val.{SFits, to_z, of_z}
use mir.ValLaws.{to_z-of_z}
use Rattle.zone.specs.Judge.{sheet_answer_of}
use Rattle.book.specs.Which.{which_of}
use Rattle.spargolutta.specs.Query.{query_of}

abbrev local : ℤ → ℤ
local k = to_z w32 (of_z w32 k)

pub handed : (x y z : ℤ) → SFits w32 x → SFits w32 y → SFits w32 z →
    query_of (local x) (local y) (local z) ≡ query_of x y z
handed x y z hx hy hz = λ i. query_of (to_z-of_z w32 x hx i) (to_z-of_z w32 y hy i) (to_z-of_z w32 z hz i)

pub handed_answer : (b : List ℕ) (x y z : ℤ) → SFits w32 x → SFits w32 y → SFits w32 z →
    sheet_answer_of b (query_of (local x) (local y) (local z)) ≡ sheet_answer_of b (query_of x y z)
handed_answer b x y z hx hy hz = ap (sheet_answer_of b) (handed x y z hx hy hz)

pub handed_zones : (book : List ℕ) (grid : ℕ) (x y z : ℤ) → SFits w32 x → SFits w32 y → SFits w32 z →
    which_of book grid (query_of (local x) (local y) (local z)) ≡ which_of book grid (query_of x y z)
handed_zones book grid x y z hx hy hz = ap (which_of book grid) (handed x y z hx hy hz)

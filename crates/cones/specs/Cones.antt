-- Lists of edges that are complete for a query, or for all that are in a cone: for the code alone. Defined, in order:
-- Covers, Complete (a list of edges); EarlierTell; Walked, Coming (what a loop over a complete list has come to).
use Rattle.std.specs.Prelude.{◌≡◌, true, false, List, ℕ, suc, ◌≤◌, ◌<◌, ℤ, length, get_or}
use Rattle.sphere.specs.declared.point.Point.{Point}
use Rattle.polygon.specs.Vertices.{start_of, end_of}
use Rattle.polygon.specs.Border.{is_coincident, is_border}
use Rattle.search.specs.declared.walk.Tally.TheVariants.{Crossed}
use Rattle.search.specs.Walk.{tally_from}
use Rattle.azimuths.specs.Sectors.{Idle}
use Rattle.cones.specs.declared.told.Told.{Told}

-- Each edge before i is an entry of the list, from entry a on before entry b, in rising order, or I holds of it.
pub data Covers (I : ℕ → Type 0) (l : List ℕ) (a : ℕ) : ℕ → ℕ → Type 0 where
  none : Covers I l a 0 a
  pass : {i b : ℕ} → Covers I l a i b → I i → Covers I l a (suc i) b
  keep : {i b : ℕ} → Covers I l a i b → get_or l b 0 ≡ i → Covers I l a (suc i) (suc b)

-- The entries from a on before b are there, and of n edges only those are left out of which I holds.
pub record Complete (I : ℕ → Type 0) (n : ℕ) (l : List ℕ) (a b : ℕ) : Type 0 where
  pub some : a ≤ b
  pub within : b ≤ length l
  pub covers : Covers I l a n b

-- An edge before i that is coincident with it tells that edge i is no border: a walk came past it.
pub record EarlierTell (vs : List ℤ) (i : ℕ) : Type 0 where
  pub tell : (j : ℕ) → j < i → is_coincident vs (start_of vs i) (end_of vs i) j ≡ true → is_border vs i ≡ false

-- Before entry e of a list: what all edges say that the entries before it cover, of which none is border and holds P.
pub record Walked (vs : List ℤ) (X P : Point) (l : List ℕ) (e crossed : ℕ) (sum : ℤ) : Type 0 where
  pub tally : (i : ℕ) → Covers (Idle vs X P) l 0 i e → tally_from vs X P 0 i ≡ Crossed crossed sum

-- The same as a loop over the first `to` entries has it.
pub record Coming (vs : List ℤ) (X P : Point) (l : List ℕ) (to : ℕ) (told : Told) : Type 0 where
  pub before : told.at ≤ to
  pub walked : Walked vs X P l told.at told.crossed told.sum

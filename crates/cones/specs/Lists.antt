-- Parts of lists of edges: for the code alone. Defined, in order: Entries; Kept (a list without some entries), Framed,
-- Filtered, Sifted, Gathered.
use Rattle.std.specs.Prelude.{◌≡◌, Bool, true, List, ℕ, suc, ◌+◌, ◌-◌, ◌≤◌, ◌<◌, length, get_or}
use Rattle.cones.specs.declared.lists.Part.{Part}

-- The entries from a on before b are below n.
pub record Entries (n : ℕ) (l : List ℕ) (a b : ℕ) : Type 0 where
  pub each : (e : ℕ) → a ≤ e → e < b → get_or l e 0 < n

-- The entries of m, from c on before k, are those of l, from a on before e, but for some at which the test holds.
pub data Kept (test : ℕ → Bool) (l m : List ℕ) (a c : ℕ) : ℕ → ℕ → Type 0 where
  begin : Kept test l m a c a c
  drop : {e k : ℕ} → Kept test l m a c e k → test (get_or l e 0) ≡ true → Kept test l m a c (suc e) k
  copy : {e k : ℕ} → Kept test l m a c e k → get_or m k 0 ≡ get_or l e 0 → Kept test l m a c (suc e) (suc k)

-- A list m that was l: the entries before `to` are as they were.
pub record Framed (l m : List ℕ) (to : ℕ) : Type 0 where
  pub room : length m ≡ length l
  pub before : (x : ℕ) → x < to → get_or m x 0 ≡ get_or l x 0

-- And behind them, up to r, stands what is kept of those from `from` on.
pub record Filtered (test : ℕ → Bool) (l m : List ℕ) (from to r : ℕ) : Type 0 where
  pub framed : Framed l m to
  pub after : to ≤ r
  pub few : r ≤ to + (to - from)
  pub kept : Kept test l m from to to r

-- The same with what is kept somewhere on m, and nothing of it behind r.
pub record Sifted (test : ℕ → Bool) (l m : List ℕ) (from to : ℕ) (r : Part) : Type 0 where
  pub framed : Framed l m to
  pub after : to ≤ r.to
  pub some : r.from ≤ r.to
  pub within : r.to ≤ length m
  pub kept : Kept test l m from r.from to r.to

-- What is kept of the entries of l, from `from` on before `to`, stands on a list m of its own, before r.
pub record Gathered (test : ℕ → Bool) (l m : List ℕ) (from to r : ℕ) : Type 0 where
  pub within : r ≤ length m
  pub kept : Kept test l m from 0 to r

-- Which edge that holds the query is border (document 02, P3): for the code alone. Defined, in order: Foremost,
-- ClassMarked (one class); NoneHeld, HeldAt, NextHeld, OneClass, OtherAt, NextOther, Settled (the edges that hold the
-- query, one by one). A list of marks has a number for each edge: 1 if the edge is marked.
use Rattle.std.specs.Prelude.{◌≡◌, true, false, cond, List, ℕ, ◌≤◌, ◌<◌, ℤ, length, get_or, Option, None, Some}
use Rattle.sphere.specs.declared.point.Point.{Point}
use Rattle.polygon.specs.Vertices.{vertices_count, start_of, end_of}
use Rattle.polygon.specs.Border.{is_coincident, is_border}
use Rattle.polygon.specs.Verdict.{is_held_by}

-- Edge i is the first that joins its two directions.
pub record Foremost (vs : List ℤ) (i : ℕ) : Type 0 where
  pub none : (j : ℕ) → j < i → is_coincident vs (start_of vs i) (end_of vs i) j ≡ false

-- All edges that join the same two directions are marked, as far as there are marks, and no other mark changes.
pub record ClassMarked (vs : List ℤ) (i : ℕ) (marks after : List ℕ) : Type 0 where
  pub room : length after ≡ length marks
  pub each : (j : ℕ) → j < vertices_count vs → j < length marks →
      get_or after j 0 ≡ cond (is_coincident vs (start_of vs i) (end_of vs i) j) 1 (get_or marks j 0)

-- No edge from `from` on, before `at`, holds P; and the first from `from` on that does, if any.
abbrev pub NoneHeld : List ℤ → Point → ℕ → ℕ → Type 0
NoneHeld vs P from at = (j : ℕ) → from ≤ j → j < at → is_held_by vs P j ≡ false

pub record HeldAt (vs : List ℤ) (P : Point) (from at : ℕ) : Type 0 where
  pub after : from ≤ at
  pub before : at < vertices_count vs
  pub passed : NoneHeld vs P from at
  pub held : is_held_by vs P at ≡ true

abbrev pub NextHeld : List ℤ → Point → ℕ → Option ℕ → Type 0
NextHeld vs P from None = NoneHeld vs P from (vertices_count vs)
NextHeld vs P from (Some at) = HeldAt vs P from at

-- Those after edge i, before `at`, that hold P are of its class; and the first after it that is not, if any.
abbrev pub OneClass : List ℤ → Point → ℕ → ℕ → Type 0
OneClass vs P i at = (j : ℕ) → i < j → j < at → is_held_by vs P j ≡ true → is_coincident vs (start_of vs i) (end_of vs i) j ≡ true

pub record OtherAt (vs : List ℤ) (P : Point) (i at : ℕ) : Type 0 where
  pub after : i < at
  pub before : at < vertices_count vs
  pub passed : OneClass vs P i at
  pub held : is_held_by vs P at ≡ true
  pub other : is_coincident vs (start_of vs i) (end_of vs i) at ≡ false

abbrev pub NextOther : List ℤ → Point → ℕ → Option ℕ → Type 0
NextOther vs P i None = OneClass vs P i (vertices_count vs)
NextOther vs P i (Some at) = OtherAt vs P i at

-- Before edge i: each edge that holds P is marked, none that is marked is border, and coincident ones are marked alike.
pub record Settled (vs : List ℤ) (P : Point) (i : ℕ) (marks : List ℕ) : Type 0 where
  pub room : vertices_count vs ≤ length marks
  pub held : (j : ℕ) → j < i → is_held_by vs P j ≡ true → get_or marks j 0 ≡ 1
  pub unbordered : (j : ℕ) → j < vertices_count vs → get_or marks j 0 ≡ 1 → is_border vs j ≡ false
  pub alike : (j k : ℕ) → j < vertices_count vs → k < vertices_count vs →
      is_coincident vs (start_of vs j) (end_of vs j) k ≡ true → get_or marks j 0 ≡ get_or marks k 0

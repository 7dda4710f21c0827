-- Document 02, P2: what a walk over some edges says, and the number of edges looked at. Defined, in order: test_by (one
-- edge); tally_by, tally_on, tally_from; NoneBefore, stops_at; is_looked, reach, looked_from; is_counted, asks_boxes, looked_in
-- (by the mode), reach_of, Among, is_looked_by (as they are worked out). A walk goes over k edges from i on.
use Rattle.std.specs.Prelude.{◌≡◌, Bool, false, true, not, ◌&&◌, cond, List, ℕ, suc, ◌-◌, ◌/◌, ◌<◌, ℤ}
use Prim.{Unit}
use Rattle.sphere.specs.declared.point.Point.{Point}
use Rattle.std.specs.declared.option.Option.{Option}
use Rattle.std.specs.declared.option.Option.TheVariants.{None, Some}
use Rattle.answer.specs.Search.{first_from, count_from, sum_from}
use Rattle.polygon.specs.Verdict.{is_held_by, is_on_border, is_crossed, way_of}
use Rattle.search.specs.declared.walk.EdgeTest.{EdgeTest}
use Rattle.search.specs.declared.walk.EdgeTest.TheVariants.{OnBorder, Way}
use Rattle.search.specs.declared.walk.Tally.{Tally}
use Rattle.search.specs.declared.walk.Tally.TheVariants.{Held, Crossed}
use Rattle.search.specs.declared.walk.Mode.{Mode}
use Rattle.search.specs.declared.walk.Mode.TheVariants.{Plain, Boxed, Counted}
use Rattle.search.specs.Boxes.{box_at, is_apart, is_skipped}

-- ---- the verdict's parts

-- One edge: border that holds the query, or which way it is crossed.
abbrev pub test_by : Bool → ℤ → EdgeTest
test_by held way = cond held OnBorder (Way way)

-- Some edges: the first at which a test holds, that of border edges that hold the query, or else the crossings and
-- their sum.
abbrev pub tally_by : Option ℕ → ℕ → ℤ → Tally
tally_by (Some edge) crossed sum = Held edge
tally_by None crossed sum = Crossed crossed sum

abbrev pub tally_on : (ℕ → Bool) → List ℤ → Point → Point → ℕ → ℕ → Tally
tally_on test vs X P i k =
    tally_by (first_from test i k) (count_from (is_crossed vs X P) i k) (sum_from (way_of vs X P) i k)

unfoldable pub tally_from : List ℤ → Point → Point → ℕ → ℕ → Tally
tally_from vs X P i k = tally_on (is_on_border vs P) vs X P i k

-- For the code alone: no edge before i is border and holds P, so a walk comes to edge i.
abbrev pub NoneBefore : List ℤ → Point → ℕ → Type 0
NoneBefore vs P i = first_from (is_on_border vs P) 0 i ≡ None

-- For the code alone: where a walk ends, at an edge that holds P, border or not; or nowhere, and the crossings of all
-- edges are counted.
abbrev pub stops_at : List ℤ → Point → Bool → ℕ → Bool
stops_at vs P stop i = is_held_by vs P i && stop

-- ---- the edges looked at

-- Edge i, where the search comes to it: its run is not skipped.
unfoldable pub is_looked : List ℤ → Point → Point → ℕ → Bool
is_looked vs X P i = not (is_skipped vs X P (i / 32))

-- How many of k edges from i on the search comes to: it ends with the edge found.
abbrev pub reach : Option ℕ → ℕ → ℕ → ℕ
reach None i k = k
reach (Some edge) i k = suc edge - i

unfoldable pub looked_from : List ℤ → Point → Point → ℕ → ℕ → ℕ
looked_from vs X P i k = count_from (is_looked vs X P) i (reach (first_from (is_on_border vs P) i k) i k)

-- ---- for the code alone: how the number of edges looked at is worked out

-- Whether the mode counts and whether it asks the boxes; and the number that it gives: 0 where it does not count.
abbrev pub is_counted : Mode → Bool
is_counted Plain = false
is_counted Boxed = false
is_counted Counted = true

abbrev pub asks_boxes : Mode → Bool
asks_boxes Plain = false
asks_boxes Boxed = true
asks_boxes Counted = true

abbrev pub looked_in : Mode → ℕ → ℕ
looked_in Plain looked = 0
looked_in Boxed looked = 0
looked_in Counted looked = looked

-- By what the search over n edges said; and that the edge it names is one of them.
abbrev pub reach_of : Tally → ℕ → ℕ
reach_of (Held edge) n = suc edge
reach_of (Crossed crossed sum) n = n

abbrev pub Among : Tally → ℕ → Type 0
Among (Held edge) n = edge < n
Among (Crossed crossed sum) n = Unit {0}

-- By the boxes, and the normal of the plane.
unfoldable pub is_looked_by : List ℤ → Point → ℕ → Bool
is_looked_by boxes N i = not (is_apart N (box_at boxes (i / 32)))
